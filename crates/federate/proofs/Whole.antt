-- The answer at each place where the federate check can stop. Assumes nothing.
use Rattle.std.proofs.Common.{ℕ, ◌≡◌, refl, ◌∙◌, sym, List, [], ◌∷◌, ◌++◌, append_assoc}
use Rattle.std.specs.Prelude.{Result, Ok, Err}
use Rattle.identity.specs.Text.{identity_text}
use Rattle.answers.specs.declared.Refusal.{Refusal}
use Rattle.answers.specs.Numbers.{numbers}
use Rattle.answers.specs.Checks.{Check, first, run, Outcome, passed, answer_of}
use Rattle.answers.proofs.Laws.{first_past, first_stops, answered, not_answered}
use Rattle.schema.specs.Rows.{federate_at}
use Rattle.schema.specs.Records.{records_of}
use Rattle.packing.specs.declared.PackKind.TheVariants.{Federate}
use Rattle.packing.specs.Packing.{packing_checks}
use Rattle.enclave.specs.Answer.{unless}
use Rattle.route_pairs.specs.RoutePairs.{route_record_checks}
use Rattle.federate.specs.declared.FederateAccepted.{FederateAccepted}
use Rattle.federate.specs.Records.{enclaves_of}
use Rattle.federate.specs.Enclaves.{record_checks, enclaves_answer}
use Rattle.federate.specs.Federate.{own_checks, federate_checks}
use Rattle.federate.specs.Answer.{federate_numbers, federate_links, federate_result, packed_answer, federate_answer}

module _ (p batch house : List ℕ) where
  -- the federate's own record, its enclaves, and the routes of all
  abbrev pub own : List Check
  own = own_checks (identity_text batch house) (federate_at p 0) (enclaves_of p)

  abbrev pub start : ℕ
  start = (federate_at p 0).enclaves.0.start

  abbrev pub enclaves : List Check
  enclaves = run (record_checks p batch house start) 0 (records_of p)

  abbrev pub routes : List Check
  routes = run (route_record_checks (identity_text batch house) p) 0 (records_of p)

  abbrev pub found : Result ℕ Refusal
  found = enclaves_answer p batch house start

  pub in_parts : federate_checks p batch house ≡ own ++ (enclaves ++ routes)
  unfolding federate_checks
  in_parts = simp append_assoc

  pub own_refused : {r : Refusal} → first own ≡ Err r → federate_result p batch house ≡ Err r
  unfolding federate_result
  own_refused e = rw (in_parts, first_stops own (enclaves ++ routes) e) refl

  past-own : first own ≡ passed → first (federate_checks p batch house) ≡ first (enclaves ++ routes)
  past-own e = rw in_parts (first_past own (enclaves ++ routes) e)

  pub enclaves_refused : {r : Refusal} → first own ≡ passed → found ≡ Err r → federate_result p batch house ≡ Err r
  unfolding federate_result
  enclaves_refused e f = rw (past-own e, first_stops enclaves routes (not_answered (first enclaves) (federate_links p batch house) f)) refl

  past-enclaves : {k : ℕ} → first own ≡ passed → found ≡ Ok k → first (federate_checks p batch house) ≡ first routes
  past-enclaves e f = past-own e ∙ first_past enclaves routes (answered (first enclaves) (federate_links p batch house) f).0

  pub routes_refused : {k : ℕ} {r : Refusal} → first own ≡ passed → found ≡ Ok k → first routes ≡ Err r → federate_result p batch house ≡ Err r
  unfolding federate_result
  routes_refused e f g = rw (past-enclaves e f, g) refl

  pub accepted : {k : ℕ} → first own ≡ passed → found ≡ Ok k → first routes ≡ passed → federate_result p batch house ≡ Ok (record { enclaves = enclaves_of p; links = k })
  unfolding federate_result
  accepted e f g = rw (past-enclaves e f, g, (answered (first enclaves) (federate_links p batch house) f).1) refl

  -- the numbers of the answer for a pack that is packed, and for one that is not
  numbers-of : (o : Outcome) (a : FederateAccepted) → federate_numbers (answer_of o a) ≡ unless o (0 ∷ a.enclaves ∷ a.links ∷ [])
  numbers-of (Ok u) a = refl
  numbers-of (Err r) a = refl

  pub packing_refused : {r : Refusal} → first (packing_checks Federate p batch house) ≡ Err r → federate_answer p batch house ≡ numbers r
  unfolding federate_answer
  packing_refused e = rw e refl

  pub line_answer : first (packing_checks Federate p batch house) ≡ passed → federate_answer p batch house ≡ packed_answer p batch house
  unfolding federate_answer
  line_answer e = rw e refl

  pub packed_numbers : first (packing_checks Federate p batch house) ≡ passed → federate_answer p batch house ≡ federate_numbers (federate_result p batch house)
  unfolding federate_answer packed_answer federate_result
  packed_numbers e = rw e (sym (numbers-of (first (federate_checks p batch house)) (record { enclaves = enclaves_of p; links = federate_links p batch house })))
