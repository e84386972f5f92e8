-- The modes from i on are left.
use Rattle.answers.proofs.Loops.{Remaining}
use Rattle.checks.specs.Image.{image_of}
use Rattle.row_checks.specs.Modes.{mode_checks}
use Rattle.row_checks.proofs.modes.check_modes.Given as goal

abbrev pub invariant-loop-i : goal.invariant-loop-i
invariant-loop-i l =
    let m = image_of l.e in
    Remaining (mode_checks m) l.i (m.rows 6)
