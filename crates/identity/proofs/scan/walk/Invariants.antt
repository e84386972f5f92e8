-- The text is such exactly where its rest is.
use Rattle.std.proofs.Common.{◌-◌, length, not, eqb}
use Rattle.identity.specs.Scan.{rest_from}
use Rattle.identity.proofs.Steps.{Kept}
use Rattle.identity.proofs.scan.walk.Given as goal

abbrev pub invariant-loop-at : goal.invariant-loop-at
invariant-loop-at g l =
    let rest = rest_from (not (eqb g.row.ANY 0)) l.text in Kept (rest 0) rest (length l.text) l.at

abbrev pub decreases-loop-at : goal.decreases-loop-at
decreases-loop-at g l = length l.text - l.at
