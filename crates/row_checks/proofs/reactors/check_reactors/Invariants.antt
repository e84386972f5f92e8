-- The reactors from i on are left, and the end of the span before is at hand.
use Rattle.std.proofs.Common.{◌≡◌}
use Rattle.answers.proofs.Loops.{Remaining}
use Rattle.checks.specs.Image.{image_of}
use Rattle.checks.specs.Refs.{span_end, end_before}
use Rattle.row_checks.specs.Reactors.{reactor_checks}
use Rattle.row_checks.proofs.reactors.check_reactors.Given as goal

abbrev pub invariant-loop-i : goal.invariant-loop-i
invariant-loop-i l =
    let m = image_of l.e in
    Remaining (reactor_checks m) l.i (m.rows 2) × (l.previous_end ≡ end_before (λ j. span_end (m.reactors j).modes.0) l.i)
