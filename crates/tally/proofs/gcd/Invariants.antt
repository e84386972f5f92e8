-- The two numbers keep their greatest common divisor, and the second falls.
use Rattle.std.proofs.Common.{◌≡◌}
use Rattle.tally.specs.Gcd.{gcd}
use Rattle.tally.proofs.gcd.Given as goal

abbrev pub invariant-loop-y : goal.invariant-loop-y
invariant-loop-y l = record { same : gcd l.x l.y ≡ gcd l.a l.b }

abbrev pub decreases-loop-y : goal.decreases-loop-y
decreases-loop-y l = l.y
