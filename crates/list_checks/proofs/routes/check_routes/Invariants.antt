-- The routes from i on are left, and the text and direction of the one before are at hand.
use Rattle.std.proofs.Common.{◌≡◌, ◌-◌}
use Rattle.answers.proofs.Loops.{Remaining}
use Rattle.checks.specs.Image.{image_of}
use Rattle.list_checks.specs.Routes.{route_checks}
use Rattle.list_checks.proofs.routes.check_routes.Given as goal

abbrev pub invariant-loop-i : goal.invariant-loop-i
invariant-loop-i l =
    let m = image_of l.e in
    Remaining (route_checks m) l.i (m.rows 23)
    × ((l.before.text.now ≡ m.text (m.routes (l.i - 1)).boundary) × (l.before.direction ≡ (m.routes (l.i - 1)).direction))
