-- The entries from i on are left.
use Rattle.answers.proofs.Loops.{Remaining}
use Rattle.checks.specs.Image.{image_of, stored_at}
use Rattle.list_checks.specs.ListTables.{listed_entry_checks}
use Rattle.list_checks.proofs.level_lists.check_listed_entries.Given as goal

abbrev pub invariant-loop-i : goal.invariant-loop-i
invariant-loop-i g l =
    let m = image_of l.e in
    let entries = stored_at g.L.Stored.at l.e.pack.bytes.now l.e.starts.now.firsts in
    Remaining (listed_entry_checks m.rows m.reactions (g.L.Listed.own m.rows) g.L.Listed.level entries l.table) l.i (m.rows l.table)
