-- One remainder keeps the divisor; where the second number is 0 the first is it.
use Rattle.std.proofs.Common.{◌≡◌, ◌∙◌, sym, arith}
use Rattle.tally.proofs.GcdLaws.{gcd-step, gcd-zero}
use Rattle.tally.proofs.gcd.Goals as goal

pub loop-y-preserved : goal.loop-y-preserved
loop-y-preserved c = record { same = sym (gcd-step c.loop-y.x c.loop-y.y (omega arith)) ∙ c.loop-y.invariant.same }

pub returns : goal.returns
returns c =
    let z : c.loop-y.y ≡ 0 = omega arith in
    let i = c.loop-y.invariant.same in
    sym (gcd-zero _) ∙ (rw z at i)
