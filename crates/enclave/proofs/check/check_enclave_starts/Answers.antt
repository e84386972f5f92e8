-- A pack that is not packed, and the answer of one that is.
use Rattle.std.proofs.Common.{◌≡◌, ◌∙◌, sym, ap, rules, arith}
use Rattle.std.specs.Prelude.{Err}
use Rattle.answers.specs.Checks.{first, passed}
use Rattle.packing.specs.declared.PackKind.TheVariants.{Enclave}
use Rattle.packing.specs.Packing.{packing_checks}
use Rattle.packing.specs.Starts.{table_starts}
use Rattle.enclave.specs.Answer.{answer_numbers, image_result}
use Rattle.enclave.proofs.Whole.{packing_refused, starts_stay, starts_found, packed_answer, image_is}
use Rattle.enclave.proofs.check.check_enclave_starts.Goals as goal

pub returns-in_err-pack : goal.returns-in_err-pack
returns-in_err-pack c =
    let h : first (packing_checks Enclave c.args.pack.now c.args.batch.now c.args.house.now) ≡ Err c.in_err-pack.field-0.0 = search rules in
    let k = packing_refused c.args.pack.now c.args.batch.now c.args.house.now h in
    let s = starts_stay c.args.pack.now c.args.batch.now c.args.house.now c.args.starts.now.firsts h in
    record { answer = grind (arith, k); starts = sym s; packed = grind arith }

pub returns : goal.returns
returns c =
    let p = c.args.pack.now in
    let packed : first (packing_checks Enclave p c.args.batch.now c.args.house.now) ≡ passed = search rules in
    let bytes : c.enclave.result.pack.bytes.now ≡ p = search rules in
    let batch : c.enclave.result.texts.batch.now ≡ c.args.batch.now = search rules in
    let house : c.enclave.result.texts.house.now ≡ c.args.house.now = search rules in
    let firsts : c.enclave.result.starts.now.firsts ≡ table_starts p 1 = search rules in
    let found : c.note_starts.new.starts.firsts ≡ table_starts p 1 = search rules in
    let own : c.enclave.result.own ≡ 0 = search rules in
    let same = image_is p c.args.batch.now c.args.house.now c.enclave.result bytes batch house firsts own in
    let k = packed_answer p c.args.batch.now c.args.house.now packed in
    record {
      answer = ap answer_numbers (c.check_image.ensures ∙ ap image_result same) ∙ sym k;
      starts = found ∙ sym (starts_found p c.args.batch.now c.args.house.now c.args.starts.now.firsts packed);
      packed = search rules;
    }
