-- The enabled modes from k on are left.
use Rattle.answers.proofs.Loops.{Remaining}
use Rattle.checks.specs.Image.{image_of}
use Rattle.list_checks.specs.ListTables.{enabled_mode_checks}
use Rattle.list_checks.proofs.list_tables.check_modes_of_reaction.Given as goal

abbrev pub invariant-loop-k : goal.invariant-loop-k
invariant-loop-k l =
    let m = image_of l.e in
    Remaining (enabled_mode_checks m.rows m.modes m.indexes l.key.0 l.reaction.reactor.0 l.start) l.k l.len
