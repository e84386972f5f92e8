-- The deadlines from i on are left.
use Rattle.answers.proofs.Loops.{Remaining}
use Rattle.checks.specs.Image.{image_of}
use Rattle.list_checks.specs.Deadlines.{deadline_checks}
use Rattle.list_checks.proofs.deadlines.check_deadlines.Given as goal

abbrev pub invariant-loop-i : goal.invariant-loop-i
invariant-loop-i l = let m = image_of l.e in Remaining (deadline_checks m) l.i (m.rows 25)
