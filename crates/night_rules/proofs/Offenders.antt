-- Where a rule is broken there is a first offender, and the night's refusal names it. Assumes nothing.
use Prim.Native.Nat.{ℕ, ◌<◌, ◌≤◌}
use mathlib.Core.Bool.{false, true≢false}
use mathlib.Core.Path.{◌≡◌, refl, ◌∙◌}
use mathlib.Core.List.{List, [], ◌++◌}
use native.Mathlib.Decide.{dec_le}
use native.Mathlib.Omega.{arith}
use lib.Dec.{eqb, leb}
use borrow.Author.Tests.{eq-eqb, eqb-true, leb-true, leb-false, le-leb, lt-leb}
use Rattle.std.specs.Prelude.{Ok, Err}
use Rattle.identity.specs.Text.{identity_text}
use Rattle.identity.proofs.Tests.{cases}
use Rattle.answers.specs.declared.Refusal.{Refusal}
use Rattle.answers.specs.declared.Refusal.TheVariants.{TooManyReactors}
use Rattle.answers.specs.Checks.{Check, first, run, Outcome, passed}
use Rattle.answers.proofs.Laws.{first_past, first_stops}
use Rattle.answers.proofs.Passed.{item}
use Rattle.schema.specs.declared.index.TimingDomain.{TimingDomain}
use Rattle.schema.specs.declared.index.TimingDomain.TheVariants.{Logical, Physical}
use Rattle.schema.specs.Bytes.{byte_of}
use Rattle.schema.specs.Records.{records_of, is_of, domain_number}
use Rattle.federate.specs.Records.{enclaves_before}
use Rattle.federate.specs.Enclaves.{image_at}
use Rattle.federate.specs.Federate.{federate_checks}
use Rattle.federate.proofs.Accepted.{line_checks}
use Rattle.night.specs.Enclaves.{reactors_checks, depth_checks, domain_checks, night_enclave_checks, enclave_routes, night_record_checks}
use Rattle.night.specs.Halves.{unpaired_record_checks}
use Rattle.night.specs.Night.{night_checks}
use Rattle.night.proofs.Day.{night_decides}
use Rattle.night_rules.specs.Rules.{Station, Route, reactors_of, scopes_of, routes_in, Shallow, StationsKeep, RoutesKeep, NightRules}
use Rattle.night_rules.specs.Offenders.{FirstStation, FirstOffender, many, deep, physical, lone}
use Rattle.night_rules.specs.Answers.{RefusalNamesFirst}
use Rattle.night_rules.proofs.Laws.{holds, fails, passes_run, stops_run, none_refuses, Split, inside, after, split, Met, here, later, met, met_only, fault}
use Rattle.night_rules.proofs.Ancestors.{few_none, none_few}
use Rattle.night_rules.proofs.Halves.{has_other, other_counted}
use Rattle.night_rules.proofs.Rules.{depths, domains, shallow_passed, passed_shallow, logical_passed, passed_logical, ends, stations_keep, stations_pass, routes_keep, routes_pass, keeps}

physical_so : (d : TimingDomain) → eqb (domain_number d) 0 ≡ false → d ≡ Physical
physical_so Logical e = absurd (true≢false e)
physical_so Physical e = refl

so_physical : (d : TimingDomain) → d ≡ Physical → eqb (domain_number d) 0 ≡ false
so_physical d e = rw e refl

-- a test that fails, both ways
past : (a b : ℕ) → leb a b ≡ false → a ≤ b → ⊥
past a b e l = let h = leb-false a b e in omega arith

past_so : (a b : ℕ) → (a ≤ b → ⊥) → leb a b ≡ false
past_so a b h = lt-leb a b (elim (dec_le a b) [ yes y ↦ absurd (h y) | no y ↦ omega arith ])

module _ (p batch house : List ℕ) (o : first (federate_checks p batch house) ≡ passed) where
  named : {r s : Refusal} → r ≡ s → FirstOffender p batch house r → FirstOffender p batch house s
  named e x = rw (← e) x

  abbrev scopes : ℕ → List Check
  scopes n = run (depths p batch house n) 0 (scopes_of p batch house n)

  abbrev routes : ℕ → List Check
  routes n = run (domains p batch house n) 0 (routes_in p batch house n)

  abbrev line_routes : ℕ → List Check
  line_routes = unpaired_record_checks (identity_text batch house) p

  abbrev own : ℕ → List Check
  own n = night_enclave_checks (enclaves_before p n) (image_at p batch house n) (enclave_routes p n)

  -- what a station's refusal names
  module _ (n : ℕ) (s : FirstStation p batch house n) {r : Refusal} where
    of_scopes : reactors_of p batch house n ≤ 64 → first (scopes n) ≡ Err r → FirstOffender p batch house r
    unfolding depth_checks
    of_scopes f e =
        let t = fault (depths p batch house n) (scopes_of p batch house n) e in
        let m = met_only _ _ t.is in
        let l : t.place < scopes_of p batch house n = (let w = t.within in omega arith) in
        let d = ends p batch house o n s.0 in
        named m.1 (deep n t.place s f l (shallow_passed p batch house n d _ (omega arith) (λ i u. t.before i (omega arith) u)) (λ z. past _ _ m.0 (none_few (image_at p batch house n) d t.place l z)))

    of_routes : reactors_of p batch house n ≤ 64 → Shallow p batch house n (scopes_of p batch house n) → first (routes n) ≡ Err r → FirstOffender p batch house r
    unfolding domain_checks
    of_routes f g e =
        let t = fault (domains p batch house n) (routes_in p batch house n) e in
        let m = met_only _ _ t.is in
        let l : t.place < routes_in p batch house n = (let w = t.within in omega arith) in
        named m.1 (physical n t.place s f g l (logical_passed p batch house n _ (λ i u. t.before i (omega arith) u)) (physical_so _ m.0))

    of_station : first (own n) ≡ Err r → FirstOffender p batch house r
    unfolding night_enclave_checks reactors_checks
    of_station e = go (met _ _ _ e)
      where
        rows : reactors_of p batch house n ≤ 64 → Split (scopes n) (routes n) r → FirstOffender p batch house r
        rows f (inside h) = of_scopes f h
        rows f (after h g) =
            of_routes f (shallow_passed p batch house n (ends p batch house o n s.0) _ (omega arith) (λ i l. (item (depths p batch house n) (scopes_of p batch house n) (record { is = h }) i l).is)) g

        go : Met (leb (reactors_of p batch house n) 64) (TooManyReactors (enclaves_before p n) (reactors_of p batch house n)) (scopes n ++ routes n) r → FirstOffender p batch house r
        go (here b q) = named q (many n s (leb-false _ _ b))
        go (later b h) = rows (leb-true _ _ b) (split (scopes n) (routes n) h)

    of_record : first (night_record_checks p batch house n) ≡ Err r → FirstOffender p batch house r
    unfolding night_record_checks
    of_record e = of_station (rw (eq-eqb (byte_of p n 0) 1 s.0.1) at e)

  -- a record that refuses is a station's; a route's
  is_station : (n : ℕ) {r : Refusal} → n < records_of p → first (night_record_checks p batch house n) ≡ Err r → Station p n
  unfolding night_record_checks
  is_station n l e = cases (is_of p 1 n) (λ b. (l, eqb-true _ _ b)) (λ b. absurd (none_refuses (rw b at e)))

  is_route : (n : ℕ) {r : Refusal} → n < records_of p → first (line_routes n) ≡ Err r → Route p n
  unfolding unpaired_record_checks
  is_route n l e = cases (is_of p 23 n) (λ b. (l, eqb-true _ _ b)) (λ b. absurd (none_refuses (rw b at e)))

  of_line_route :
      (n : ℕ) {r : Refusal} → Route p n → StationsKeep p batch house (records_of p) → RoutesKeep (identity_text batch house) p n
      → first (line_routes n) ≡ Err r → FirstOffender p batch house r
  unfolding unpaired_record_checks
  of_line_route n s k g e =
      let m = met_only _ _ (rw (eq-eqb (byte_of p n 0) 23 s.1) at e) in
      named m.1 (lone n k s g (λ z. past _ _ m.0 (other_counted (identity_text batch house) p n z)))

  abbrev stations : List Check
  stations = run (night_record_checks p batch house) 0 (records_of p)

  of_checks : {r : Refusal} → first (night_checks p batch house) ≡ Err r → FirstOffender p batch house r
  unfolding night_checks
  of_checks {r} e = go (split stations (run line_routes 0 (records_of p)) e)
    where
      go : Split stations (run line_routes 0 (records_of p)) r → FirstOffender p batch house r
      go (inside h) =
          let t = fault (night_record_checks p batch house) (records_of p) h in
          let l : t.place < records_of p = (let w = t.within in omega arith) in
          of_record t.place (is_station t.place l t.is, stations_keep p batch house o _ (λ i u. t.before i (omega arith) u)) t.is
      go (after h g) =
          let t = fault line_routes (records_of p) g in
          let l : t.place < records_of p = (let w = t.within in omega arith) in
          of_line_route t.place (is_route t.place l t.is)
          (stations_keep p batch house o _ (λ i u. (item (night_record_checks p batch house) (records_of p) (record { is = h }) i u).is))
          (routes_keep p batch house o _ (λ i u. t.before i (omega arith) u)) t.is

  -- where a rule is broken there is one
  pub some_offender : (NightRules p batch house → ⊥) → (r : Refusal) × FirstOffender p batch house r
  some_offender broken = go (first (night_checks p batch house)) refl
    where
      go : (x : Outcome) → first (night_checks p batch house) ≡ x → (r : Refusal) × FirstOffender p batch house r
      go (Ok u) e = absurd (broken (keeps p batch house o e))
      go (Err r) e = (r, of_checks e)

  -- and the refusal that an offender gives
  at_station : (n : ℕ) (r : Refusal) → FirstStation p batch house n → first (own n) ≡ Err r → first (night_checks p batch house) ≡ Err r
  unfolding night_checks night_record_checks
  at_station n r s e =
      first_stops stations (run line_routes 0 (records_of p))
      (stops_run (night_record_checks p batch house) (records_of p) n s.0.0 (stations_pass p batch house o n (let l = s.0.0 in omega arith) s.1) (rw (eq-eqb (byte_of p n 0) 1 s.0.1) e))

  many_refused : (n : ℕ) → 64 < reactors_of p batch house n → first (own n) ≡ Err (TooManyReactors (enclaves_before p n) (reactors_of p batch house n))
  unfolding night_enclave_checks reactors_checks
  many_refused n l = fails _ _ (lt-leb _ _ l)

  rows_refused : (n : ℕ) (r : Refusal) → reactors_of p batch house n ≤ 64 → first (scopes n ++ routes n) ≡ Err r → first (own n) ≡ Err r
  unfolding night_enclave_checks reactors_checks
  rows_refused n r f e = holds _ _ (le-leb _ _ f) ∙ e

  pub offends : (r : Refusal) → FirstOffender p batch house r → first (night_checks p batch house) ≡ Err r
  unfolding night_checks unpaired_record_checks depth_checks domain_checks
  offends r (many n s l) = at_station n _ s (many_refused n l)
  offends r (deep n i s f l g d) =
      let e = ends p batch house o n s.0 in
      at_station n _ s (rows_refused n _ f
      (first_stops (scopes n) (routes n)
      (stops_run (depths p batch house n) _ i l (passed_shallow p batch house n e i (omega arith) g) (fails _ [] (past_so _ _ (λ z. d (few_none (image_at p batch house n) e i l z)))))))
  offends r (physical n i s f g l j d) =
      let e = ends p batch house o n s.0 in
      at_station n _ s (rows_refused n _ f
      (first_past (scopes n) (routes n) (passes_run (depths p batch house n) _ (passed_shallow p batch house n e _ (omega arith) g))
      ∙ stops_run (domains p batch house n) _ i l (passed_logical p batch house n i j) (fails _ [] (so_physical _ d))))
  offends r (lone n k s g j) =
      first_past stations (run line_routes 0 (records_of p)) (passes_run _ _ (stations_pass p batch house o _ (omega arith) k))
      ∙ stops_run line_routes (records_of p) n s.0 (routes_pass p batch house o n (let l = s.0 in omega arith) g)
      (rw (eq-eqb (byte_of p n 0) 23 s.1) (fails _ [] (past_so _ _ (λ x. j (has_other (identity_text batch house) p n x)))))

pub names_first : RefusalNamesFirst
names_first p batch house s c e =
    let o = line_checks p batch house s c e in
    (some_offender p batch house o, λ r f. night_decides p batch house s c e ∙ rw (offends p batch house o r f) refl)
