-- The bindings from i on are left, and the text of the one before is at hand.
use Rattle.std.proofs.Common.{◌≡◌, ◌-◌}
use Rattle.answers.proofs.Loops.{Remaining}
use Rattle.checks.specs.Image.{image_of}
use Rattle.list_checks.specs.Routes.{binding_id_checks}
use Rattle.list_checks.proofs.routes.check_binding_ids.Given as goal

abbrev pub invariant-loop-i : goal.invariant-loop-i
invariant-loop-i l =
    let m = image_of l.e in
    Remaining (binding_id_checks m) l.i (m.rows 24) × (l.previous ≡ m.text (m.bindings (l.i - 1)).id)
