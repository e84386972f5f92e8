-- The bytes before the k-th are the same exactly where `same` says so.
use Rattle.std.proofs.Common.{◌≡◌}
use Rattle.identity.specs.Scan.{every, same_at}
use Rattle.identity.proofs.compare.same_block.Given as goal

abbrev pub invariant-loop-k : goal.invariant-loop-k
invariant-loop-k l = l.same ≡ every (same_at l.left l.right) 0 l.k
