-- The records before n pass.
use Rattle.answers.proofs.Loops.{Remaining}
use Rattle.convert.specs.Convert.{shape_checks}
use Rattle.convert.proofs.rules.check_shapes.Given as goal

abbrev pub invariant-loop-n : goal.invariant-loop-n
invariant-loop-n l = Remaining (shape_checks l.kind l.pack.bytes.now) l.n l.records
