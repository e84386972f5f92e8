-- The reactions from i on are left, and the ends of the ranges before are at hand.
use Rattle.std.proofs.Common.{◌≡◌}
use Rattle.answers.proofs.Loops.{Remaining}
use Rattle.checks.specs.Image.{image_of}
use Rattle.row_checks.specs.Reactions.{reaction_checks, reaction_ends_before}
use Rattle.row_checks.proofs.reactions.check_reactions.Given as goal

abbrev pub invariant-loop-i : goal.invariant-loop-i
invariant-loop-i l =
    let m = image_of l.e in
    Remaining (reaction_checks m) l.i (m.rows 5) × (l.previous ≡ reaction_ends_before m.reactions l.i)
