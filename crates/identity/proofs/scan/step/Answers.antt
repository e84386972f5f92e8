-- A scalar that was found is a step, or is refused.
use Rattle.std.proofs.Common.{not, eqb}
use Rattle.identity.proofs.Walk.{rest-refused, rest-scalar}
use Rattle.identity.proofs.scan.step.Goals as goal

pub returns-then-refused-clause-none : goal.returns-then-refused-clause-none
returns-then-refused-clause-none g c =
    rest-refused (not (eqb g.row.ANY 0)) c.args.text.now c.args.at c.refused-refused.result c.requires c.in_ok-scalar.ensures c.refused-refused.ensures c.if-refused.true

pub returns-clause-some : goal.returns-clause-some
returns-clause-some g c =
    rest-scalar (not (eqb g.row.ANY 0)) c.args.text.now c.args.at c.refused-refused.result c.requires c.in_ok-scalar.ensures c.refused-refused.ensures c.if-refused.false
