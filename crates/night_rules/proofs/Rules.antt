-- The day's refusal stays, and the night's checks pass exactly where the night's rules hold. Assumes nothing.
use Prim.Native.Nat.{ℕ, ◌<◌, ◌≤◌}
use mathlib.Core.Bool.{true, true≢false}
use mathlib.Core.Path.{◌≡◌, refl, ◌∙◌, sym}
use mathlib.Core.List.{List, [], ◌∷◌}
use native.Mathlib.Omega.{arith}
use lib.Dec.{eqb}
use borrow.Author.Tests.{eq-eqb, eqb-true, le-leb}
use Rattle.identity.specs.declared.IdentityPlace.{IdentityPlace}
use Rattle.identity.specs.Text.{identity_text}
use Rattle.identity.proofs.Tests.{cases}
use Rattle.answers.specs.Checks.{Check, first, run, passed}
use Rattle.answers.proofs.Laws.{first_past}
use Rattle.answers.proofs.Passed.{Passes, test, rest, at_most, parts, item}
use Rattle.schema.specs.declared.index.TimingDomain.{TimingDomain}
use Rattle.schema.specs.declared.index.TimingDomain.TheVariants.{Logical, Physical}
use Rattle.schema.specs.Bytes.{byte_of}
use Rattle.schema.specs.Rows.{route_at}
use Rattle.schema.specs.Records.{records_of, is_of, domain_number}
use Rattle.checks.specs.Image.{Image}
use Rattle.enclave.proofs.Accepted.{no_refusal}
use Rattle.federate.specs.Records.{enclaves_before}
use Rattle.federate.specs.Enclaves.{image_at}
use Rattle.federate.specs.Federate.{federate_checks}
use Rattle.federate.proofs.Accepted.{enclave_passes, line_checks}
use Rattle.accepted.specs.Chains.{ChainsEnd}
use Rattle.accepted.proofs.Worth.{worth}
use Rattle.night.specs.Enclaves.{reactors_checks, depth_checks, domain_checks, night_enclave_checks, enclave_routes, night_record_checks}
use Rattle.night.specs.Halves.{unpaired_check, unpaired_record_checks}
use Rattle.night.specs.Night.{night_checks}
use Rattle.night.proofs.Day.{day_stays, night_decides}
use Rattle.night_rules.specs.Rules.{Station, Route, scopes_of, routes_in, Shallow, AllLogical, StationRules, HasOther, StationsKeep, RoutesKeep, NightRules}
use Rattle.night_rules.specs.Answers.{RefusalStays, YesStaysExactly}
use Rattle.night_rules.proofs.Laws.{holds, passes_run}
use Rattle.night_rules.proofs.Ancestors.{few_none, none_few}
use Rattle.night_rules.proofs.Halves.{has_other, other_counted}

logical_so : (d : TimingDomain) → eqb (domain_number d) 0 ≡ true → d ≡ Logical
logical_so Logical e = refl
logical_so Physical e = absurd (true≢false (sym e))

so_logical : (d : TimingDomain) → d ≡ Logical → eqb (domain_number d) 0 ≡ true
so_logical d e = rw e refl

-- the station of record n
module _ (p batch house : List ℕ) (n : ℕ) where
  abbrev m : Image
  m = image_at p batch house n

  abbrev pub depths : ℕ → List Check
  depths = depth_checks (enclaves_before p n) m

  abbrev pub domains : ℕ → List Check
  domains = domain_checks (enclaves_before p n) (enclave_routes p n)

  pub shallow_passed : ChainsEnd m → (k : ℕ) → k ≤ scopes_of p batch house n → ((i : ℕ) → i < k → first (depths i) ≡ passed) → Shallow p batch house n k
  unfolding depth_checks
  shallow_passed d k u h i l = let w : Passes (depths i) = record { is = h i l } in few_none m d i (omega arith) (at_most w)

  pub passed_shallow : ChainsEnd m → (k : ℕ) → k ≤ scopes_of p batch house n → Shallow p batch house n k → (i : ℕ) → i < k → first (depths i) ≡ passed
  unfolding first depth_checks
  passed_shallow d k u h i l = holds _ [] (le-leb _ _ (none_few m d i (omega arith) (h i l)))

  pub logical_passed : (k : ℕ) → ((i : ℕ) → i < k → first (domains i) ≡ passed) → AllLogical p n k
  unfolding domain_checks
  logical_passed k h i l = let w : Passes (domains i) = record { is = h i l } in logical_so _ (test w)

  pub passed_logical : (k : ℕ) → AllLogical p n k → (i : ℕ) → i < k → first (domains i) ≡ passed
  unfolding first domain_checks
  passed_logical k h i l = holds _ [] (so_logical _ (h i l))

  rules_so : ChainsEnd m → first (night_enclave_checks (enclaves_before p n) m (enclave_routes p n)) ≡ passed → StationRules p batch house n
  unfolding night_enclave_checks reactors_checks
  rules_so d e =
      let a : Passes (night_enclave_checks (enclaves_before p n) m (enclave_routes p n)) = record { is = e } in
      let b = parts (run depths 0 (scopes_of p batch house n)) (run domains 0 (routes_in p batch house n)) (rest a) in
      record {
        few = at_most a;
        shallow = shallow_passed d _ (omega arith) (λ i l. (item depths (scopes_of p batch house n) b.0 i l).is);
        logical = logical_passed _ (λ i l. (item domains (routes_in p batch house n) b.1 i l).is);
      }

  so_rules : ChainsEnd m → StationRules p batch house n → first (night_enclave_checks (enclaves_before p n) m (enclave_routes p n)) ≡ passed
  unfolding night_enclave_checks reactors_checks
  so_rules d s =
      holds _ _ (le-leb _ _ s.few)
      ∙ first_past (run depths 0 (scopes_of p batch house n)) (run domains 0 (routes_in p batch house n)) (passes_run depths _ (passed_shallow d _ (omega arith) s.shallow))
      ∙ passes_run domains _ (passed_logical _ s.logical)

  pub station_keeps : ChainsEnd m → first (night_record_checks p batch house n) ≡ passed → byte_of p n 0 ≡ 1 → StationRules p batch house n
  unfolding night_record_checks
  station_keeps d e t = rules_so d (rw (eq-eqb (byte_of p n 0) 1 t) at e)

  pub station_passes : n < records_of p → (Station p n → ChainsEnd m) → (Station p n → StationRules p batch house n) → first (night_record_checks p batch house n) ≡ passed
  unfolding night_record_checks first
  station_passes l d h = cases (is_of p 1 n) (λ e. let s : Station p n = (l, eqb-true _ _ e) in rw e (so_rules (d s) (h s))) (λ e. rw e refl)

-- a route
module _ (text : IdentityPlace → List ℕ) (p : List ℕ) (n : ℕ) where
  pub route_keeps : first (unpaired_record_checks text p n) ≡ passed → byte_of p n 0 ≡ 23 → HasOther text p n
  unfolding unpaired_record_checks
  route_keeps e t =
      let w : Passes (unpaired_check text p (route_at p n) ∷ []) = record { is = rw (eq-eqb (byte_of p n 0) 23 t) at e } in
      has_other text p n (at_most w)

  pub route_passes : n < records_of p → (Route p n → HasOther text p n) → first (unpaired_record_checks text p n) ≡ passed
  unfolding unpaired_record_checks first
  route_passes l h = cases (is_of p 23 n) (λ e. rw e (holds _ [] (le-leb _ _ (other_counted text p n (h (l, eqb-true _ _ e)))))) (λ e. rw e refl)

module _ (p batch house : List ℕ) (o : first (federate_checks p batch house) ≡ passed) where
  pub ends : (n : ℕ) → Station p n → ChainsEnd (image_at p batch house n)
  ends n s = (worth (image_at p batch house n) (enclave_passes p batch house o n s.0 (eq-eqb (byte_of p n 0) 1 s.1))).chains_end

  -- the first k stations, and the first k routes
  pub stations_keep : (k : ℕ) → ((n : ℕ) → n < k → first (night_record_checks p batch house n) ≡ passed) → StationsKeep p batch house k
  stations_keep k h n l s = station_keeps p batch house n (ends n s) (h n l) s.1

  pub stations_pass : (k : ℕ) → k ≤ records_of p → StationsKeep p batch house k → (n : ℕ) → n < k → first (night_record_checks p batch house n) ≡ passed
  stations_pass k u h n l = station_passes p batch house n (omega arith) (ends n) (h n l)

  pub routes_keep : (k : ℕ) → ((n : ℕ) → n < k → first (unpaired_record_checks (identity_text batch house) p n) ≡ passed) → RoutesKeep (identity_text batch house) p k
  routes_keep k h n l s = route_keeps (identity_text batch house) p n (h n l) s.1

  pub routes_pass : (k : ℕ) → k ≤ records_of p → RoutesKeep (identity_text batch house) p k → (n : ℕ) → n < k → first (unpaired_record_checks (identity_text batch house) p n) ≡ passed
  routes_pass k u h n l = route_passes (identity_text batch house) p n (omega arith) (h n l)

  pub keeps : first (night_checks p batch house) ≡ passed → NightRules p batch house
  unfolding night_checks
  keeps e =
      let a = parts (run (night_record_checks p batch house) 0 (records_of p)) (run (unpaired_record_checks (identity_text batch house) p) 0 (records_of p)) (record { is = e }) in
      record {
        stations = stations_keep _ (λ n l. (item (night_record_checks p batch house) (records_of p) a.0 n l).is);
        routes = routes_keep _ (λ n l. (item (unpaired_record_checks (identity_text batch house) p) (records_of p) a.1 n l).is);
      }

  pub kept : NightRules p batch house → first (night_checks p batch house) ≡ passed
  unfolding night_checks
  kept r =
      first_past (run (night_record_checks p batch house) 0 (records_of p)) _ (passes_run _ _ (stations_pass _ (omega arith) r.stations))
      ∙ passes_run _ _ (routes_pass _ (omega arith) r.routes)

pub refusal_stays : RefusalStays
refusal_stays = day_stays

pub yes_stays : YesStaysExactly
yes_stays p batch house s c e =
    let d = night_decides p batch house s c e in
    let o = line_checks p batch house s c e in
    (λ h. keeps p batch house o (no_refusal (first (night_checks p batch house)) (0 ∷ s ∷ c ∷ []) (s ∷ c ∷ []) (sym d ∙ h)).0, λ r. d ∙ rw (kept p batch house o r) refl)
