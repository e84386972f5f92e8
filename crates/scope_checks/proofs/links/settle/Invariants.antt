-- What stands in the depths is right, and so is the depth at hand; each turn goes a link up.
use Rattle.std.proofs.Common.{◌≡◌, ◌+◌, ◌≤◌}
use Rattle.checks.specs.Image.{image_of}
use Rattle.scope_checks.specs.Links.{links_of, parents}
use Rattle.scope_checks.specs.Depths.{Known}
use Rattle.scope_checks.proofs.links.settle.Given as goal

abbrev pub invariant-loop-scope : goal.invariant-loop-scope
invariant-loop-scope l =
    let m = image_of l.e in
    record {
      known : Known m l.depths;
      links : l.depth ≡ links_of (parents m) (m.rows 7) l.scope.0 + 1;
      ends : l.depth ≤ m.rows 7;
    }

abbrev pub decreases-loop-scope : goal.decreases-loop-scope
decreases-loop-scope l = l.depth
