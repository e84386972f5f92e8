-- The links of the scope are those followed and those of the scope at hand.
use Rattle.std.proofs.Common.{◌≡◌, ◌+◌, ◌-◌}
use Rattle.checks.specs.Image.{image_of}
use Rattle.scope_checks.specs.Links.{followed, links_of, parents}
use Rattle.scope_checks.proofs.links.links_by.Given as goal

abbrev pub invariant-loop-followed : goal.invariant-loop-followed
invariant-loop-followed l =
    let m = image_of l.e in
    let n = m.rows 7 in
    links_of (parents m) n l.fn.scope.0 ≡ l.followed + followed (parents m) (n - l.followed) (parents m l.at.0)
