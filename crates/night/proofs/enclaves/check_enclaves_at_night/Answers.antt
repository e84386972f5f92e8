-- Before the first enclave, a refusal, one enclave more.
use Rattle.std.proofs.Common.{◌≡◌, ◌<◌, ℕ, rules, arith}
use Rattle.std.specs.Prelude.{Err}
use Rattle.answers.specs.Checks.{first, passed}
use Rattle.schema.specs.Records.{records_of}
use Rattle.federate.specs.Records.{enclave_from, enclave_end}
use Rattle.night.proofs.EnclaveLaws.{at_record, gap_start, gap_refused, gap_next}
use Rattle.night.proofs.enclaves.check_enclaves_at_night.Goals as goal

pub loop-own-init : goal.loop-own-init
loop-own-init c =
    let p = c.args.federate.pack.bytes.now in
    let e : c.into_iter-own-iterator.result.next ≡ enclave_from p 0 (records_of p) = search rules in
    record { same = search rules; left = gap_start p c.args.federate.texts.batch.now c.args.federate.texts.house.now _ e }

pub returns-in_err-check_own : goal.returns-in_err-check_own
returns-in_err-check_own c =
    let p = c.args.federate.pack.bytes.now in
    let n : ℕ = c.loop-own.own-iterator.next in
    let l : n < records_of p = search rules in
    let h : first (at_record p c.args.federate.texts.batch.now c.args.federate.texts.house.now n) ≡ Err c.in_err-check_own.field-0.0 = search rules in
    grind (arith, gap_refused p c.args.federate.texts.batch.now c.args.federate.texts.house.now n c.loop-own.invariant.left l h)

pub loop-own-preserved : goal.loop-own-preserved
loop-own-preserved c =
    let p = c.args.federate.pack.bytes.now in
    let n : ℕ = c.loop-own.own-iterator.next in
    let l : n < records_of p = search rules in
    let h : first (at_record p c.args.federate.texts.batch.now c.args.federate.texts.house.now n) ≡ passed = search rules in
    let e : c.next.new.self.next ≡ enclave_end p n = search rules in
    record { same = search rules; left = gap_next p c.args.federate.texts.batch.now c.args.federate.texts.house.now n c.loop-own.invariant.left _ l h e }
