-- The bytes looked at are at most their limits.
use Rattle.std.proofs.Common.{◌≡◌, ◌*◌}
use Rattle.packing.specs.Limits.{within}
use Rattle.packing.proofs.clean.within_before.Given as goal

abbrev pub invariant-loop-j : goal.invariant-loop-j
invariant-loop-j l = l.all ≡ within l.item.bytes.now (l.item.number * 64) l.limits l.j
