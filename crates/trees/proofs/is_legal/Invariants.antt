-- The chains of the scopes before the one at hand end.
use Rattle.std.proofs.Common.{◌≡◌, true}
use Rattle.trees.specs.Trees.{all_end}
use Rattle.trees.proofs.is_legal.Given as goal

abbrev pub invariant-loop-i : goal.invariant-loop-i
invariant-loop-i l = all_end l.scopes l.table l.i ≡ true
