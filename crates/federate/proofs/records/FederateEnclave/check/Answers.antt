-- The enclave refused, its identity refused, both passed.
use Rattle.std.proofs.Common.{◌≡◌, sym, rules, arith}
use Rattle.std.specs.Prelude.{Ok, Err}
use Rattle.answers.specs.Checks.{first, passed}
use Rattle.enclave.specs.Answer.{image_result}
use Rattle.federate.specs.Enclaves.{image_at, order_checks}
use Rattle.federate.proofs.EnclaveLaws.{own_refused, order_refused, record_accepted}
use Rattle.federate.proofs.records.FederateEnclave.check.Goals as goal

pub returns-in_err-links : goal.returns-in_err-links
returns-in_err-links c =
    let e = c.args.self in
    let h : image_result (image_at e.pack.bytes.now c.args.texts.batch.now c.args.texts.house.now e.number) ≡ Err c.in_err-links.field-0.0 = search rules in
    grind (arith, own_refused e.pack.bytes.now c.args.texts.batch.now c.args.texts.house.now c.args.start e.number e.enclave h)

pub returns-in_err-check_order : goal.returns-in_err-check_order
returns-in_err-check_order c =
    let e = c.args.self in
    let k : image_result (image_at e.pack.bytes.now c.args.texts.batch.now c.args.texts.house.now e.number) ≡ Ok c.in_ok-links.links = search rules in
    let h : first (order_checks e.pack.bytes.now c.args.texts.batch.now c.args.texts.house.now c.args.start e.number) ≡ Err c.in_err-check_order.field-0.0 = search rules in
    grind (arith, order_refused e.pack.bytes.now c.args.texts.batch.now c.args.texts.house.now c.args.start e.number e.enclave k h)

pub returns : goal.returns
returns c =
    let e = c.args.self in
    let k : image_result (image_at e.pack.bytes.now c.args.texts.batch.now c.args.texts.house.now e.number) ≡ Ok c.in_ok-links.links = search rules in
    let h : first (order_checks e.pack.bytes.now c.args.texts.batch.now c.args.texts.house.now c.args.start e.number) ≡ passed = search rules in
    sym (record_accepted e.pack.bytes.now c.args.texts.batch.now c.args.texts.house.now c.args.start e.number e.enclave k h)
