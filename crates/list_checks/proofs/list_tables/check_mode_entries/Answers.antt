-- The entries' checks are those of the rows that they name.
use Rattle.list_checks.specs.ListTables.{index_checks}
use Rattle.list_checks.proofs.list_tables.check_mode_entries.Goals as goal

pub returns : goal.returns
unfolding index_checks
returns g c = rw c.TABLE.ensures at c.check_named.ensures
