-- A refusal of the second check, and the question in an enclave that it accepts.
use Rattle.std.proofs.Common.{◌≡◌, ◌∙◌, sym, ap, [], ◌∷◌, rules, arith}
use Rattle.answers.specs.Numbers.{numbers}
use Rattle.checks.specs.Image.{image_of}
use Rattle.packing.specs.Starts.{table_starts}
use Rattle.enclave.specs.Answer.{pack_image}
use Rattle.enclave.proofs.Whole.{starts_found, image_is}
use Rattle.accepted.proofs.Tables.{no_table_too_large}
use Rattle.rising.specs.Rising.{rising_answer}
use Rattle.rising.specs.Answer.{image_reach, image_scratch}
use Rattle.rising.proofs.AnswerLaws.{station_passed, station_packed, levels_rise, reach_is, scratch_is, reach_refused, scratch_stays}
use Rattle.rising.proofs.rising.count_reached.Goals as goal

pub returns-in_err-check_rising_starts-clause-answer : goal.returns-in_err-check_rising_starts-clause-answer
returns-in_err-check_rising_starts-clause-answer c =
    let p = c.args.pack.now in
    let batch = c.args.batch.now in
    let house = c.args.house.now in
    let h : numbers c.in_err-check_rising_starts.field-0.0 ≡ rising_answer p batch house = c.in_err-check_rising_starts.ensures.answer in
    let k = reach_refused p batch house c.args.kind c.args.reaction c.args.scratch.now _ (sym h) in
    grind (arith, k)

pub returns-in_err-check_rising_starts-clause-scratch : goal.returns-in_err-check_rising_starts-clause-scratch
returns-in_err-check_rising_starts-clause-scratch c =
    let p = c.args.pack.now in
    let batch = c.args.batch.now in
    let house = c.args.house.now in
    let h : numbers c.in_err-check_rising_starts.field-0.0 ≡ rising_answer p batch house = c.in_err-check_rising_starts.ensures.answer in
    sym (scratch_stays p batch house c.args.kind c.args.reaction c.args.scratch.now _ (sym h))

pub enclave-requires-clause-starts : goal.enclave-requires-clause-starts
enclave-requires-clause-starts c =
    let p = c.args.pack.now in
    let batch = c.args.batch.now in
    let house = c.args.house.now in
    let a : rising_answer p batch house ≡ 0 ∷ c.in_ok-check_rising_starts.field-0 ∷ [] = sym c.in_ok-check_rising_starts.ensures.answer in
    let s = station_passed p batch house _ a in
    let found = c.check_rising_starts.ensures.starts ∙ starts_found p batch house c.none-starts.result.firsts (station_packed p batch house s) in
    found

pub count_in-requires-clause-rises : goal.count_in-requires-clause-rises
count_in-requires-clause-rises c =
    let p = c.args.pack.now in
    let batch = c.args.batch.now in
    let house = c.args.house.now in
    let a : rising_answer p batch house ≡ 0 ∷ c.in_ok-check_rising_starts.field-0 ∷ [] = sym c.in_ok-check_rising_starts.ensures.answer in
    let s = station_passed p batch house _ a in
    let found = c.check_rising_starts.ensures.starts ∙ starts_found p batch house c.none-starts.result.firsts (station_packed p batch house s) in
    let firsts : c.enclave.result.starts.now.firsts ≡ table_starts p 1 = rw c.enclave.ensures.starts found in
    let m : image_of c.enclave.result ≡ pack_image p batch house = image_is p batch house c.enclave.result (search rules) (search rules) (search rules) firsts (search rules) in
    rw m (levels_rise p batch house s)

pub count_in-requires-clause-few : goal.count_in-requires-clause-few
count_in-requires-clause-few c =
    let p = c.args.pack.now in
    let batch = c.args.batch.now in
    let house = c.args.house.now in
    let a : rising_answer p batch house ≡ 0 ∷ c.in_ok-check_rising_starts.field-0 ∷ [] = sym c.in_ok-check_rising_starts.ensures.answer in
    let s = station_passed p batch house _ a in
    let found = c.check_rising_starts.ensures.starts ∙ starts_found p batch house c.none-starts.result.firsts (station_packed p batch house s) in
    let firsts : c.enclave.result.starts.now.firsts ≡ table_starts p 1 = rw c.enclave.ensures.starts found in
    let few = no_table_too_large p batch house 4 in
    rw firsts (omega (arith, few))

pub returns-clause-answer : goal.returns-clause-answer
returns-clause-answer c =
    let p = c.args.pack.now in
    let batch = c.args.batch.now in
    let house = c.args.house.now in
    let a : rising_answer p batch house ≡ 0 ∷ c.in_ok-check_rising_starts.field-0 ∷ [] = sym c.in_ok-check_rising_starts.ensures.answer in
    let s = station_passed p batch house _ a in
    let found = c.check_rising_starts.ensures.starts ∙ starts_found p batch house c.none-starts.result.firsts (station_packed p batch house s) in
    let firsts : c.enclave.result.starts.now.firsts ≡ table_starts p 1 = rw c.enclave.ensures.starts found in
    let m : image_of c.enclave.result ≡ pack_image p batch house = image_is p batch house c.enclave.result (search rules) (search rules) (search rules) firsts (search rules) in
    c.count_in.ensures.answer
    ∙ ap (λ x. image_reach c.args.kind x c.new.result.0 c.args.scratch.now) m
    ∙ ap (λ y. image_reach c.args.kind (pack_image p batch house) y.0 c.args.scratch.now) c.new.ensures
    ∙ sym (reach_is p batch house s c.args.kind c.args.reaction c.args.scratch.now)

pub returns-clause-scratch : goal.returns-clause-scratch
returns-clause-scratch c =
    let p = c.args.pack.now in
    let batch = c.args.batch.now in
    let house = c.args.house.now in
    let a : rising_answer p batch house ≡ 0 ∷ c.in_ok-check_rising_starts.field-0 ∷ [] = sym c.in_ok-check_rising_starts.ensures.answer in
    let s = station_passed p batch house _ a in
    let found = c.check_rising_starts.ensures.starts ∙ starts_found p batch house c.none-starts.result.firsts (station_packed p batch house s) in
    let firsts : c.enclave.result.starts.now.firsts ≡ table_starts p 1 = rw c.enclave.ensures.starts found in
    let m : image_of c.enclave.result ≡ pack_image p batch house = image_is p batch house c.enclave.result (search rules) (search rules) (search rules) firsts (search rules) in
    c.count_in.ensures.scratch
    ∙ ap (λ x. image_scratch c.args.kind x c.new.result.0 c.args.scratch.now) m
    ∙ ap (λ y. image_scratch c.args.kind (pack_image p batch house) y.0 c.args.scratch.now) c.new.ensures
    ∙ sym (scratch_is p batch house s c.args.kind c.args.reaction c.args.scratch.now)
