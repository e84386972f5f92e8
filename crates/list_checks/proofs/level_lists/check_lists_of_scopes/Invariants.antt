-- The lists of the scopes from i on are left.
use Rattle.answers.proofs.Loops.{Remaining}
use Rattle.checks.specs.Image.{image_of}
use Rattle.list_checks.specs.ListTables.{scope_list_checks}
use Rattle.list_checks.proofs.level_lists.check_lists_of_scopes.Given as goal

abbrev pub invariant-loop-i : goal.invariant-loop-i
invariant-loop-i l = let m = image_of l.e in Remaining (scope_list_checks m) l.i (m.rows 7)
