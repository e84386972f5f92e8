-- What a change answers, from one check to the next. Assumes nothing.
use Prim.Native.Nat.{ℕ, ◌/◌, ◌<◌, ◌≤◌}
use mathlib.Core.Path.{◌≡◌, refl, ◌∙◌, sym, ap}
use mathlib.Core.List.{List, [], ◌∷◌, ◌++◌}
use native.Mathlib.Omega.{arith}
use lib.ListN.{length, get_or}
use Rattle.std.specs.Prelude.{Ok, Err, Result}
use Rattle.answers.specs.declared.Refusal.{Refusal}
use Rattle.answers.specs.Numbers.{numbers}
use Rattle.answers.specs.Checks.{Check, first, Outcome, passed}
use Rattle.answers.proofs.Laws.{first_past, first_stops}
use Rattle.answers.proofs.Passed.{Passes, parts, below, equal}
use Rattle.answers.proofs.RefusalNumbers.{number-positive}
use Rattle.packing.specs.declared.PackKind.TheVariants.{Federate}
use Rattle.packing.specs.Packing.{packing_checks}
use Rattle.packing.proofs.Packed.{fits}
use Rattle.enclave.specs.Answer.{unless}
use Rattle.enclave.proofs.Accepted.{no_refusal}
use Rattle.federate.specs.declared.FederateAccepted.{FederateAccepted}
use Rattle.federate.specs.Federate.{federate_checks}
use Rattle.federate.specs.Answer.{federate_numbers, packed_answer, federate_answer}
use Rattle.federate.proofs.Accepted.{line_packed}
use Rattle.change.specs.Change.{changed, line_checks, length_check, place_checks, change_checks, change_outcome, line_yes, change_answer}

-- two lists of checks one after the other, then an answer
unless-append : (xs ys : List Check) (ns : List ℕ) → unless (first (xs ++ ys)) ns ≡ unless (first xs) (unless (first ys) ns)
unless-append xs ys ns = go (first xs) refl
  where
    go : (o : Outcome) → first xs ≡ o → unless (first (xs ++ ys)) ns ≡ unless o (unless (first ys) ns)
    go (Ok u) e = rw (first_past xs ys e) refl
    go (Err r) e = rw (first_stops xs ys e) refl

-- a refusal decides whatever an acceptance would answer
refused-any : (o : Outcome) (ns ms : List ℕ) (r : Refusal) → numbers r ≡ unless o (0 ∷ ns) → numbers r ≡ unless o ms
refused-any (Ok u) ns ms r e =
    let h : get_or (numbers r) 0 0 ≡ 0 = ap (λ xs. get_or xs 0 0) e in
    absurd (omega (arith, number-positive r))
refused-any (Err q) ns ms r e = e

-- the answer of a line by its checks
pub line-answer : (p batch house : List ℕ) → federate_answer p batch house ≡ unless (first (line_checks p batch house)) (line_yes p batch house)
unfolding federate_answer packed_answer
line-answer p batch house = sym (unless-append (packing_checks Federate p batch house) (federate_checks p batch house) (line_yes p batch house))

module _ (p batch house : List ℕ) (n : ℕ) (row : List ℕ) where
  -- the answer, from one list of checks to the next
  pub in-steps :
      change_answer p batch house n row
      ≡ unless (first (length_check row ∷ []))
      (unless (first (line_checks p batch house))
      (unless (first (place_checks p n row)) (federate_answer (changed p n row) batch house)))
  unfolding change_answer change_checks
  in-steps =
      let q = changed p n row in
      let yes = line_yes q batch house in
      rw (line-answer q batch house)
      (unless-append (length_check row ∷ []) (line_checks p batch house ++ (place_checks p n row ++ line_checks q batch house)) yes
      ∙ ap (unless (first (length_check row ∷ [])))
      (unless-append (line_checks p batch house) (place_checks p n row ++ line_checks q batch house) yes
      ∙ ap (unless (first (line_checks p batch house))) (unless-append (place_checks p n row) (line_checks q batch house) yes)))

  -- each refusal, and the answer where no check before the new line's refuses
  pub by-length : {r : Refusal} → Err r ≡ first (length_check row ∷ []) → numbers r ≡ change_answer p batch house n row
  by-length e = rw (in-steps, ← e) refl

  pub by-present :
      (r : Refusal) → passed ≡ first (length_check row ∷ []) → numbers r ≡ federate_answer p batch house → numbers r ≡ change_answer p batch house n row
  by-present r e d = rw (in-steps, ← e) (refused-any (first (line_checks p batch house)) _ _ r (d ∙ line-answer p batch house))

  present-passes : (a : FederateAccepted) → federate_numbers (Ok a) ≡ federate_answer p batch house → first (line_checks p batch house) ≡ passed
  present-passes a d = (no_refusal (first (line_checks p batch house)) (line_yes p batch house) _ (sym (d ∙ line-answer p batch house))).0

  pub by-place :
      (a : FederateAccepted) {r : Refusal}
      → passed ≡ first (length_check row ∷ []) → federate_numbers (Ok a) ≡ federate_answer p batch house
      → Err r ≡ first (place_checks p n row) → numbers r ≡ change_answer p batch house n row
  by-place a e d f = rw (in-steps, ← e, present-passes a d, ← f) refl

  pub by-new-line :
      (a : FederateAccepted) (r : Result FederateAccepted Refusal)
      → passed ≡ first (length_check row ∷ []) → federate_numbers (Ok a) ≡ federate_answer p batch house
      → passed ≡ first (place_checks p n row) → federate_numbers r ≡ federate_answer (changed p n row) batch house
      → federate_numbers r ≡ change_answer p batch house n row
  by-new-line a r e d f g = rw (in-steps, ← e, present-passes a d, ← f) g

  -- what the checks say that pass
  pub row-sized : passed ≡ first (length_check row ∷ []) → length row ≡ 64
  row-sized e = let w : Passes (length_check row ∷ []) = record { is = sym e } in equal w

  pub record-there : passed ≡ first (place_checks p n row) → n < length p / 64
  record-there e = let w : Passes (place_checks p n row) = record { is = sym e } in below w

  pub pack-few : (a : FederateAccepted) → federate_numbers (Ok a) ≡ federate_answer p batch house → length p ≤ 4194304
  pack-few a d = (fits Federate p batch house (line_packed p batch house a.enclaves a.links (sym d))).few

  -- where all checks pass, those of each list do
  module _ (e : change_outcome p batch house n row ≡ passed) where
    all : Passes (change_checks p batch house n row)
    all = record { is = e }

    behind-length : Passes (length_check row ∷ []) × Passes (line_checks p batch house ++ (place_checks p n row ++ line_checks (changed p n row) batch house))
    unfolding change_checks
    behind-length = parts (length_check row ∷ []) (line_checks p batch house ++ (place_checks p n row ++ line_checks (changed p n row) batch house)) all

    behind-present : Passes (line_checks p batch house) × Passes (place_checks p n row ++ line_checks (changed p n row) batch house)
    behind-present = parts (line_checks p batch house) (place_checks p n row ++ line_checks (changed p n row) batch house) behind-length.1

    pub place-passes : Passes (place_checks p n row)
    place-passes = (parts (place_checks p n row) (line_checks (changed p n row) batch house) behind-present.1).0

    pub new-passes : Passes (line_checks (changed p n row) batch house)
    new-passes = (parts (place_checks p n row) (line_checks (changed p n row) batch house) behind-present.1).1

    pub line-passes : Passes (line_checks p batch house)
    line-passes = behind-present.0

    pub all-sized : length row ≡ 64
    all-sized = equal behind-length.0

    pub all-there : n < length p / 64
    all-there = below place-passes

pub ruleset preview_laws = (by-length, by-present, by-place, by-new-line, row-sized, record-there, pack-few)
