-- Before the first scope all are left, and the ends are those of no range.
use Rattle.std.proofs.Common.{rules, ◌≡◌, ◌-◌, refl, arith}
use Rattle.checks.specs.Image.{image_of}
use Rattle.scope_checks.specs.Ends.{ends_before}
use Rattle.scope_checks.proofs.scopes.check_scopes.Goals as goal

pub loop-i-init : goal.loop-i-init
unfolding ends_before
loop-i-init c =
    let n = (image_of c.args.e.now).rows 7 in
    let k : n - 0 ≡ n = omega arith in
    (rw k refl, search rules)
