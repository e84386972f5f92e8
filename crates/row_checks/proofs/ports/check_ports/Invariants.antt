-- The ports from i on are left, and the end of the range before is at hand.
use Rattle.std.proofs.Common.{◌≡◌}
use Rattle.answers.proofs.Loops.{Remaining}
use Rattle.checks.specs.Image.{image_of}
use Rattle.checks.specs.Refs.{range_end, end_before}
use Rattle.row_checks.specs.Ports.{port_checks}
use Rattle.row_checks.proofs.ports.check_ports.Given as goal

abbrev pub invariant-loop-i : goal.invariant-loop-i
invariant-loop-i l =
    let m = image_of l.e in
    Remaining (port_checks m) l.i (m.rows 4) × (l.previous_end ≡ end_before (λ j. range_end (m.ports j).triggers) l.i)
