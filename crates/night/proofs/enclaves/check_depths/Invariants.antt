-- The scopes from the one at hand on are left.
use Rattle.answers.proofs.Loops.{Remaining}
use Rattle.checks.specs.Image.{image_of}
use Rattle.night.specs.Enclaves.{depth_checks}
use Rattle.night.proofs.enclaves.check_depths.Given as goal

abbrev pub invariant-loop-scope : goal.invariant-loop-scope
invariant-loop-scope l = let m = image_of l.e in Remaining (depth_checks l.enclave m) l.scope (m.rows 7)
