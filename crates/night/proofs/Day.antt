-- The day's refusal stays at night; after the day's yes the night's own checks decide. Assumes nothing.
use Rattle.std.proofs.Common.{ℕ, ◌≡◌, refl, ◌∙◌, sym, ap, List, [], ◌∷◌, ◌++◌, get_or, arith}
use Rattle.std.specs.Prelude.{Ok, Err}
use Rattle.identity.specs.Text.{identity_text}
use Rattle.answers.specs.declared.Refusal.{Refusal}
use Rattle.answers.specs.Numbers.{numbers}
use Rattle.answers.specs.Checks.{Check, first, run, Outcome, passed}
use Rattle.answers.proofs.Laws.{first_past, first_stops}
use Rattle.answers.proofs.Passed.{Passes, parts}
use Rattle.answers.proofs.RefusalNumbers.{number-positive}
use Rattle.schema.specs.Bytes.{Whole}
use Rattle.schema.specs.Records.{records_of}
use Rattle.packing.specs.declared.PackKind.TheVariants.{Federate}
use Rattle.packing.specs.Packing.{packing_checks}
use Rattle.packing.proofs.Packed.{fits}
use Rattle.enclave.specs.Answer.{unless}
use Rattle.route_pairs.specs.RoutePairs.{route_record_checks}
use Rattle.federate.specs.Records.{enclaves_of}
use Rattle.federate.specs.Federate.{federate_checks}
use Rattle.federate.specs.Answer.{federate_links, packed_answer, federate_answer}
use Rattle.federate.proofs.Whole.{own, enclaves, routes, in_parts}
use Rattle.federate.proofs.Accepted.{line_packed, line_checks, line_stations, line_links}
use Rattle.night.specs.Night.{night_checks, night_answer}

-- checks that come after others leave their refusal
stays :
    (o : Outcome) (xs ys : List Check) (ns : List ℕ) → (get_or (unless o (unless (first xs) (0 ∷ ns))) 0 0 ≡ 0 → ⊥)
    → unless o (unless (first (xs ++ ys)) (0 ∷ ns)) ≡ unless o (unless (first xs) (0 ∷ ns))
stays (Err r) xs ys ns h = refl
stays (Ok u) xs ys ns h = go (first xs) refl h
  where
    go : (o : Outcome) → first xs ≡ o → (get_or (unless o (0 ∷ ns)) 0 0 ≡ 0 → ⊥) → unless (first (xs ++ ys)) (0 ∷ ns) ≡ unless o (0 ∷ ns)
    go (Ok v) e n = absurd (n refl)
    go (Err r) e n = rw (first_stops xs ys e) refl

module _ (p batch house : List ℕ) where
  pub day_stays : (get_or (federate_answer p batch house) 0 0 ≡ 0 → ⊥) → night_answer p batch house ≡ federate_answer p batch house
  unfolding federate_answer packed_answer night_answer
  day_stays h =
      stays (first (packing_checks Federate p batch house)) (federate_checks p batch house) (night_checks p batch house) (enclaves_of p ∷ federate_links p batch house ∷ []) h

  pub day_refused : (r : Refusal) → numbers r ≡ federate_answer p batch house → numbers r ≡ night_answer p batch house
  day_refused r e =
      e ∙ sym (day_stays (λ z. let h : get_or (numbers r) 0 0 ≡ get_or (federate_answer p batch house) 0 0 = ap (λ xs. get_or xs 0 0) e in omega (arith, number-positive r)))

  -- accepted by day with s enclaves and c links
  module _ (s c : ℕ) (h : federate_answer p batch house ≡ 0 ∷ s ∷ c ∷ []) where
    pub day_whole : Whole p
    day_whole = (fits Federate p batch house (line_packed p batch house s c h)).whole

    pub day_pairs : first (run (route_record_checks (identity_text batch house) p) 0 (records_of p)) ≡ passed
    day_pairs =
        let all : Passes (own p batch house ++ (enclaves p batch house ++ routes p batch house)) = record { is = rw (in_parts p batch house) at (line_checks p batch house s c h) } in
        let past_own = (parts (own p batch house) (enclaves p batch house ++ routes p batch house) all).1 in
        (parts (enclaves p batch house) (routes p batch house) past_own).1.is

    pub night_decides : night_answer p batch house ≡ unless (first (night_checks p batch house)) (0 ∷ s ∷ c ∷ [])
    unfolding night_answer
    night_decides =
        rw (
          line_packed p batch house s c h,
          first_past (federate_checks p batch house) (night_checks p batch house) (line_checks p batch house s c h),
          line_stations p batch house s c h,
          line_links p batch house s c h,
        )
        refl

    pub night_refused : {r : Refusal} → first (night_checks p batch house) ≡ Err r → night_answer p batch house ≡ numbers r
    night_refused e = night_decides ∙ rw e refl

    pub night_accepted : first (night_checks p batch house) ≡ passed → night_answer p batch house ≡ 0 ∷ s ∷ c ∷ []
    night_accepted e = night_decides ∙ rw e refl
