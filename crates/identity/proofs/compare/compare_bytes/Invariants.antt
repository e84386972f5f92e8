-- What is left of the two texts decides.
use Rattle.std.proofs.Common.{length}
use Rattle.identity.proofs.Order.{Rests}
use Rattle.identity.proofs.compare.compare_bytes.Given as goal

abbrev pub invariant-loop-a : goal.invariant-loop-a
invariant-loop-a l = Rests l.left l.right l.a l.b

abbrev pub decreases-loop-a : goal.decreases-loop-a
decreases-loop-a l = length l.a

abbrev pub invariant-loop-a-2 : goal.invariant-loop-a-2
invariant-loop-a-2 l = Rests l.left l.right l.a l.b

abbrev pub decreases-loop-a-2 : goal.decreases-loop-a-2
decreases-loop-a-2 l = length l.a
