-- The number is that of the bytes before the one at hand.
use Rattle.std.proofs.Common.{◌≡◌, ◌+◌, ◌≤◌, length}
use Rattle.trees.specs.Trees.{value}
use Rattle.trees.proofs.number_of.Given as goal

abbrev pub invariant-loop-byte : goal.invariant-loop-byte
invariant-loop-byte l =
    record {
      number : l.number ≡ value (length l.table + 1) l.table l.byte-index;
      within : l.number ≤ 624;
    }
