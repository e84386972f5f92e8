-- The scopes from i on are left, and the ends of the ranges before are at hand.
use Rattle.std.proofs.Common.{◌≡◌}
use Rattle.answers.proofs.Loops.{Remaining}
use Rattle.checks.specs.Image.{image_of}
use Rattle.scope_checks.specs.Ends.{ends_before}
use Rattle.scope_checks.specs.Scopes.{scope_checks}
use Rattle.scope_checks.proofs.scopes.check_scopes.Given as goal

abbrev pub invariant-loop-i : goal.invariant-loop-i
invariant-loop-i l =
    let m = image_of l.e in
    Remaining (scope_checks m) l.i (m.rows 7) × (l.ends ≡ ends_before m.scopes l.i)
