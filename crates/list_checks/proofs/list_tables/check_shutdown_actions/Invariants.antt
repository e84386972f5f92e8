-- The checks of the entries from i on are left.
use Rattle.answers.proofs.Loops.{Remaining}
use Rattle.checks.specs.Image.{image_of}
use Rattle.list_checks.specs.ListTables.{shutdown_action_checks}
use Rattle.list_checks.proofs.list_tables.check_shutdown_actions.Given as goal

abbrev pub invariant-loop-i : goal.invariant-loop-i
invariant-loop-i l = let m = image_of l.e in Remaining (shutdown_action_checks m) l.i (m.rows 22)
