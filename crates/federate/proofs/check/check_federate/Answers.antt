-- A pack that is not packed, and the answer of one that is.
use Rattle.std.proofs.Common.{◌≡◌, ◌∙◌, sym, ap, rules, arith}
use Rattle.std.specs.Prelude.{Err}
use Rattle.answers.specs.Checks.{first, passed}
use Rattle.packing.specs.declared.PackKind.TheVariants.{Federate}
use Rattle.packing.specs.Packing.{packing_checks}
use Rattle.federate.specs.Answer.{federate_numbers, federate_result}
use Rattle.federate.proofs.Whole.{packing_refused, packed_numbers}
use Rattle.federate.proofs.check.check_federate.Goals as goal

pub returns-in_err-pack : goal.returns-in_err-pack
returns-in_err-pack c =
    let h : first (packing_checks Federate c.args.pack.now c.args.batch.now c.args.house.now) ≡ Err c.in_err-pack.field-0.0 = search rules in
    let k = packing_refused c.args.pack.now c.args.batch.now c.args.house.now h in
    grind (arith, k)

pub returns : goal.returns
returns c =
    let packed : first (packing_checks Federate c.args.pack.now c.args.batch.now c.args.house.now) ≡ passed = search rules in
    let result : c.check_packed.result ≡ federate_result c.args.pack.now c.args.batch.now c.args.house.now = search rules in
    ap federate_numbers result ∙ sym (packed_numbers c.args.pack.now c.args.batch.now c.args.house.now packed)
