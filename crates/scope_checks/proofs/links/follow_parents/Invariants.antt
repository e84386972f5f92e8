-- The scopes from i on are left, the links of those before are summed, and what stands in the depths is right.
use Rattle.std.proofs.Common.{◌≡◌}
use Rattle.answers.proofs.Loops.{Remaining}
use Rattle.checks.specs.Image.{image_of}
use Rattle.scope_checks.specs.Links.{links_below, parents, cycle_checks}
use Rattle.scope_checks.specs.Depths.{Known}
use Rattle.scope_checks.proofs.links.follow_parents.Given as goal

abbrev pub invariant-loop-i : goal.invariant-loop-i
invariant-loop-i l =
    let m = image_of l.e in
    record {
      left : Remaining (cycle_checks m) l.i (m.rows 7);
      links : l.links ≡ links_below (parents m) (m.rows 7) l.i;
      known : Known m l.depths;
    }
