-- Before the first enclave, a refusal, one enclave more.
use Rattle.std.proofs.Common.{◌≡◌, ◌<◌, true, ℕ, rules, arith}
use Rattle.std.specs.Prelude.{Ok, Err}
use Rattle.schema.specs.Records.{records_of, is_of}
use Rattle.federate.specs.Records.{enclave_from, enclave_end}
use Rattle.federate.specs.Enclaves.{record_answer}
use Rattle.federate.proofs.EnclaveLaws.{before_start, before_refused, before_more}
use Rattle.federate.proofs.enclaves.validate_federate_enclaves.Goals as goal

pub loop-enclave-init : goal.loop-enclave-init
loop-enclave-init c =
    let e : c.into_iter-enclave-iterator.result.next ≡ enclave_from c.args.federate.pack.bytes.now 0 (records_of c.args.federate.pack.bytes.now) = search rules in
    record { same = search rules; known = before_start c.args.federate.pack.bytes.now c.args.federate.texts.batch.now c.args.federate.texts.house.now c.args.start _ e }

pub returns-in_err-links : goal.returns-in_err-links
returns-in_err-links c =
    let n : ℕ = c.loop-enclave.enclave-iterator.next in
    let l : n < records_of c.args.federate.pack.bytes.now = search rules in
    let t : is_of c.args.federate.pack.bytes.now 1 n ≡ true = search rules in
    let h : record_answer c.args.federate.pack.bytes.now c.args.federate.texts.batch.now c.args.federate.texts.house.now c.args.start n ≡ Err c.in_err-links.field-0.0 = search rules in
    grind (arith, before_refused c.args.federate.pack.bytes.now c.args.federate.texts.batch.now c.args.federate.texts.house.now c.args.start n c.loop-enclave.links c.loop-enclave.invariant.known l t h)

pub loop-enclave-preserved : goal.loop-enclave-preserved
loop-enclave-preserved c =
    let n : ℕ = c.loop-enclave.enclave-iterator.next in
    let l : n < records_of c.args.federate.pack.bytes.now = search rules in
    let t : is_of c.args.federate.pack.bytes.now 1 n ≡ true = search rules in
    let h : record_answer c.args.federate.pack.bytes.now c.args.federate.texts.batch.now c.args.federate.texts.house.now c.args.start n ≡ Ok c.in_ok-links.field-0 = search rules in
    let e : c.next.new.self.next ≡ enclave_end c.args.federate.pack.bytes.now n = search rules in
    record { same = search rules; known = before_more c.args.federate.pack.bytes.now c.args.federate.texts.batch.now c.args.federate.texts.house.now c.args.start n c.loop-enclave.links c.loop-enclave.invariant.known l t _ h _ e }
