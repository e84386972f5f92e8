-- The bytes from the one at hand on decide.
use Rattle.std.proofs.Common.{◌≡◌, drop}
use Rattle.trees.specs.Trees.{at_most}
use Rattle.trees.proofs.is_at_most.Given as goal

abbrev pub invariant-loop-byte : goal.invariant-loop-byte
invariant-loop-byte l = at_most l.scopes (drop l.byte-index l.table) ≡ at_most l.scopes l.table
