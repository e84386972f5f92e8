-- A refusal of the check, and the owner in an enclave that is accepted.
use Rattle.std.proofs.Common.{◌≡◌, ◌∙◌, sym, ap, [], ◌∷◌, rules, arith}
use Rattle.answers.specs.Checks.{first, passed}
use Rattle.answers.specs.Numbers.{numbers}
use Rattle.checks.specs.Image.{image_of}
use Rattle.packing.specs.Starts.{table_starts}
use Rattle.enclave.specs.Passes.{enclave_checks}
use Rattle.enclave.specs.Answer.{pack_image, enclave_answer}
use Rattle.enclave.proofs.Accepted.{accepted_packed, accepted_checks}
use Rattle.enclave.proofs.Whole.{starts_found, image_is}
use Rattle.mode_owner.specs.Owner.{image_owner}
use Rattle.mode_owner.proofs.Owner.{check_refused, accepted_owner}
use Rattle.mode_owner.proofs.mode_owner.Goals as goal

pub returns-in_err-check_enclave_starts : goal.returns-in_err-check_enclave_starts
returns-in_err-check_enclave_starts c =
    let h : numbers c.in_err-check_enclave_starts.field-0.0 ≡ enclave_answer c.args.pack.now c.args.batch.now c.args.house.now = c.in_err-check_enclave_starts.ensures.answer in
    let k = check_refused c.args.pack.now c.args.batch.now c.args.house.now c.args.mode _ (sym h) in
    grind (arith, k)

pub enclave-requires-clause-starts : goal.enclave-requires-clause-starts
enclave-requires-clause-starts c =
    let p = c.args.pack.now in
    let batch = c.args.batch.now in
    let house = c.args.house.now in
    let a : enclave_answer p batch house ≡ 0 ∷ c.in_ok-check_enclave_starts.field-0 ∷ [] = sym c.in_ok-check_enclave_starts.ensures.answer in
    c.check_enclave_starts.ensures.starts ∙ starts_found p batch house c.none-starts.result.firsts (accepted_packed p batch house _ a)

pub owner_in-requires : goal.owner_in-requires
owner_in-requires c =
    let p = c.args.pack.now in
    let batch = c.args.batch.now in
    let house = c.args.house.now in
    let a : enclave_answer p batch house ≡ 0 ∷ c.in_ok-check_enclave_starts.field-0 ∷ [] = sym c.in_ok-check_enclave_starts.ensures.answer in
    let found = c.check_enclave_starts.ensures.starts ∙ starts_found p batch house c.none-starts.result.firsts (accepted_packed p batch house _ a) in
    let firsts : c.enclave.result.starts.now.firsts ≡ table_starts p 1 = rw c.enclave.ensures.starts found in
    let m : image_of c.enclave.result ≡ pack_image p batch house = image_is p batch house c.enclave.result (search rules) (search rules) (search rules) firsts (search rules) in
    record { accepted = rw m (accepted_checks p batch house _ a) }

pub returns : goal.returns
returns c =
    let p = c.args.pack.now in
    let batch = c.args.batch.now in
    let house = c.args.house.now in
    let a : enclave_answer p batch house ≡ 0 ∷ c.in_ok-check_enclave_starts.field-0 ∷ [] = sym c.in_ok-check_enclave_starts.ensures.answer in
    let found = c.check_enclave_starts.ensures.starts ∙ starts_found p batch house c.none-starts.result.firsts (accepted_packed p batch house _ a) in
    let firsts : c.enclave.result.starts.now.firsts ≡ table_starts p 1 = rw c.enclave.ensures.starts found in
    let m : image_of c.enclave.result ≡ pack_image p batch house = image_is p batch house c.enclave.result (search rules) (search rules) (search rules) firsts (search rules) in
    c.owner_in.ensures
    ∙ ap (λ x. image_owner x c.new.result.0) m
    ∙ ap (λ y. image_owner (pack_image p batch house) y.0) c.new.ensures
    ∙ sym (accepted_owner p batch house c.args.mode _ a)
