-- The links of the scope are those followed and those of the scope at hand.
use Rattle.std.proofs.Common.{◌≡◌, ◌+◌, ◌-◌}
use Rattle.scope_checks.specs.Links.{followed, links_of}
use Rattle.trees.specs.Trees.{parents_in}
use Rattle.trees.proofs.links_of.Given as goal

abbrev pub invariant-loop-followed : goal.invariant-loop-followed
invariant-loop-followed l =
    let parent = parents_in l.table in
    links_of parent l.scopes l.fn.scope.0 ≡ l.followed + followed parent (l.scopes - l.followed) (parent l.at.0)
