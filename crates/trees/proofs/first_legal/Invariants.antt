-- No number from the first up to the one at hand has a legal table.
use Rattle.std.proofs.Common.{◌≡◌}
use Rattle.trees.specs.Trees.{first_from}
use Rattle.trees.proofs.first_legal.Given as goal

abbrev pub invariant-loop-number : goal.invariant-loop-number
invariant-loop-number l = first_from l.scopes l.number ≡ first_from l.scopes l.from
