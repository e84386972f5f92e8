-- The reactions from i on are left.
use Rattle.answers.proofs.Loops.{Remaining}
use Rattle.checks.specs.Image.{image_of}
use Rattle.rising.specs.Rising.{reaction_rising}
use Rattle.rising.proofs.levels.check_levels.Given as goal

abbrev pub invariant-loop-i : goal.invariant-loop-i
invariant-loop-i l = let m = image_of l.e in Remaining (reaction_rising m) l.i (m.rows 5)
