-- A refusal of the ordinary check, one of the levels, and the links where neither refuses.
use Rattle.std.proofs.Common.{◌≡◌, ◌∙◌, sym, [], ◌∷◌, rules, arith}
use Rattle.std.specs.Prelude.{Err}
use Rattle.answers.specs.Checks.{first, passed}
use Rattle.answers.specs.Numbers.{numbers}
use Rattle.checks.specs.Image.{image_of}
use Rattle.packing.specs.Starts.{table_starts}
use Rattle.enclave.specs.Answer.{pack_image, enclave_answer}
use Rattle.enclave.proofs.Accepted.{accepted_packed, accepted_checks}
use Rattle.enclave.proofs.Whole.{starts_found, image_is}
use Rattle.rising.specs.Rising.{rising_checks}
use Rattle.rising.proofs.AnswerLaws.{check_refused, levels_refused, levels_passed}
use Rattle.rising.proofs.rising.check_rising_starts.Goals as goal

pub returns-in_err-links-clause-answer : goal.returns-in_err-links-clause-answer
returns-in_err-links-clause-answer c =
    let h : numbers c.in_err-links.field-0.0 ≡ enclave_answer c.args.pack.now c.args.batch.now c.args.house.now = c.in_err-links.ensures.answer in
    let k = check_refused c.args.pack.now c.args.batch.now c.args.house.now _ (sym h) in
    grind (arith, k)

pub enclave-requires-clause-starts : goal.enclave-requires-clause-starts
enclave-requires-clause-starts c =
    let a : enclave_answer c.args.pack.now c.args.batch.now c.args.house.now ≡ 0 ∷ c.in_ok-links.links ∷ [] = sym c.in_ok-links.ensures.answer in
    c.check_enclave_starts.ensures.starts ∙ starts_found c.args.pack.now c.args.batch.now c.args.house.now c.args.starts.now.firsts (accepted_packed c.args.pack.now c.args.batch.now c.args.house.now _ a)

pub check_levels-requires : goal.check_levels-requires
check_levels-requires c =
    let p = c.args.pack.now in
    let batch = c.args.batch.now in
    let house = c.args.house.now in
    let a : enclave_answer p batch house ≡ 0 ∷ c.in_ok-links.links ∷ [] = sym c.in_ok-links.ensures.answer in
    let found = c.check_enclave_starts.ensures.starts ∙ starts_found p batch house c.args.starts.now.firsts (accepted_packed p batch house _ a) in
    let firsts : c.enclave.result.starts.now.firsts ≡ table_starts p 1 = rw c.enclave.ensures.starts found in
    let m : image_of c.enclave.result ≡ pack_image p batch house = image_is p batch house c.enclave.result (search rules) (search rules) (search rules) firsts (search rules) in
    record { accepted = rw m (accepted_checks p batch house _ a) }

pub returns-in_err-check_levels-clause-answer : goal.returns-in_err-check_levels-clause-answer
returns-in_err-check_levels-clause-answer c =
    let p = c.args.pack.now in
    let batch = c.args.batch.now in
    let house = c.args.house.now in
    let a : enclave_answer p batch house ≡ 0 ∷ c.in_ok-links.links ∷ [] = sym c.in_ok-links.ensures.answer in
    let found = c.check_enclave_starts.ensures.starts ∙ starts_found p batch house c.args.starts.now.firsts (accepted_packed p batch house _ a) in
    let firsts : c.enclave.result.starts.now.firsts ≡ table_starts p 1 = rw c.enclave.ensures.starts found in
    let m : image_of c.enclave.result ≡ pack_image p batch house = image_is p batch house c.enclave.result (search rules) (search rules) (search rules) firsts (search rules) in
    let e : first (rising_checks (pack_image p batch house)) ≡ Err c.in_err-check_levels.field-0.0 = rw m at (sym c.in_err-check_levels.ensures) in
    let k = levels_refused p batch house _ a e in
    grind (arith, k)

pub returns-clause-answer : goal.returns-clause-answer
returns-clause-answer c =
    let p = c.args.pack.now in
    let batch = c.args.batch.now in
    let house = c.args.house.now in
    let a : enclave_answer p batch house ≡ 0 ∷ c.in_ok-links.links ∷ [] = sym c.in_ok-links.ensures.answer in
    let found = c.check_enclave_starts.ensures.starts ∙ starts_found p batch house c.args.starts.now.firsts (accepted_packed p batch house _ a) in
    let firsts : c.enclave.result.starts.now.firsts ≡ table_starts p 1 = rw c.enclave.ensures.starts found in
    let m : image_of c.enclave.result ≡ pack_image p batch house = image_is p batch house c.enclave.result (search rules) (search rules) (search rules) firsts (search rules) in
    let e : first (rising_checks (pack_image p batch house)) ≡ passed = rw m at (sym c.in_ok-check_levels.ensures) in
    sym (levels_passed p batch house _ a e)
