-- A mode that is not there, and one whose reactor is found.
use Rattle.std.proofs.Common.{◌≡◌, [], ◌∷◌, rules, arith, sym}
use Rattle.std.specs.Prelude.{Err}
use Rattle.answers.specs.Checks.{first, passed}
use Rattle.checks.specs.Image.{image_of}
use Rattle.accepted.specs.Modes.{holds}
use Rattle.mode_owner.specs.Owner.{NoHolder, FirstHolder}
use Rattle.mode_owner.proofs.Owner.{there, not_there, first_is_owner, some_holder}
use Rattle.mode_owner.proofs.owner_in.Goals as goal

pub returns-in_err-check_exists : goal.returns-in_err-check_exists
returns-in_err-check_exists c =
    let m = image_of c.args.e.now in
    let h : first (there m c.args.mode.0) ≡ Err c.in_err-check_exists.field-0.0 = search rules in
    let k = not_there m c.args.mode.0 c.requires.accepted h in
    grind (arith, k)

pub unwrap-requires : goal.unwrap-requires
unwrap-requires c =
    let m = image_of c.args.e.now in
    let e : first (there m c.args.mode.0) ≡ passed = search rules in
    let k = some_holder m c.args.mode.0 c.requires.accepted e in
    grind (arith, k)

pub returns : goal.returns
returns c =
    let m = image_of c.args.e.now in
    let e : first (there m c.args.mode.0) ≡ passed = search rules in
    let f : FirstHolder (holds m c.args.mode.0) (m.rows 2) c.unwrap.result.reactor.0 c.unwrap.result.rows_read = search rules in
    sym (first_is_owner m c.args.mode.0 c.requires.accepted e f)
