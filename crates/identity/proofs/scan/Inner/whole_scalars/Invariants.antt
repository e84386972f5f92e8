-- No more than the k bytes are taken.
use Rattle.std.proofs.Common.{◌≤◌}
use Rattle.identity.proofs.scan.Inner.whole_scalars.Given as goal

abbrev pub invariant-loop-w : goal.invariant-loop-w
invariant-loop-w l = l.w ≤ l.k

abbrev pub decreases-loop-w : goal.decreases-loop-w
decreases-loop-w l = l.w
