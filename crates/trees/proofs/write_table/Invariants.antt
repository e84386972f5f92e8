-- What is left to write, and what is written behind it, are the digits of the number.
use Rattle.std.proofs.Common.{◌≡◌, ◌+◌, ◌≤◌, ◌++◌, drop, length}
use Rattle.trees.specs.Trees.{digits}
use Rattle.trees.proofs.write_table.Given as goal

abbrev pub invariant-loop-left : goal.invariant-loop-left
invariant-loop-left l =
    let n = length l.fn.table in
    record {
      written : digits (n + 1) l.left l.rest ++ drop l.left l.table ≡ digits (n + 1) n l.number;
      within : l.left ≤ n;
    }

abbrev pub decreases-loop-left : goal.decreases-loop-left
decreases-loop-left l = l.left
