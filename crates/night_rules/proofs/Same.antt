-- Two lines that are the same as far as the night looks have the same night checks, and so one answer where the day's is one. Assumes nothing.
use Prim.Native.Nat.{ℕ, ◌<◌}
use mathlib.Core.Bool.{true}
use mathlib.Core.Path.{◌≡◌, refl, ◌∙◌, sym, ap}
use mathlib.Core.List.{List, [], ◌∷◌, ◌++◌}
use native.Mathlib.Omega.{arith}
use lib.Dec.{leb}
use lib.ListN.{get_or}
use Rattle.std.specs.Prelude.{Ok, Err}
use Rattle.identity.specs.declared.IdentityPlace.{IdentityPlace}
use Rattle.identity.specs.Text.{identity_text}
use Rattle.identity.proofs.Tests.{cases}
use Rattle.answers.specs.declared.Refusal.TheVariants.{TooManyReactors}
use Rattle.answers.specs.Checks.{Check, need, first, run, Outcome, passed}
use Rattle.answers.proofs.RefusalNumbers.{number-positive}
use Rattle.schema.specs.declared.rows.RouteImage.{RouteImage}
use Rattle.schema.specs.Rows.{route_at}
use Rattle.schema.specs.Records.{records_of, is_of}
use Rattle.packing.specs.declared.PackKind.TheVariants.{Federate}
use Rattle.packing.specs.Packing.{packing_checks}
use Rattle.packing.proofs.SameTables.{SameTables, same_records, same_test}
use Rattle.scope_checks.specs.Links.{parents, links_of}
use Rattle.enclave.specs.Answer.{unless}
use Rattle.federate.specs.Records.{enclaves_of, enclaves_before}
use Rattle.federate.specs.Enclaves.{image_at}
use Rattle.federate.specs.Federate.{federate_checks}
use Rattle.federate.specs.Answer.{federate_links, packed_answer, federate_answer}
use Rattle.federate.proofs.Accepted.{line_checks}
use Rattle.federate.proofs.SameEnclaves.{same_places, same_halves}
use Rattle.night.specs.Enclaves.{reactors_checks, depth_checks, domain_checks, night_enclave_checks, enclave_routes, night_record_checks}
use Rattle.night.specs.Halves.{unpaired_check, unpaired_record_checks}
use Rattle.night.specs.Night.{night_checks, night_answer}
use Rattle.night.proofs.Day.{day_stays, night_decides}
use Rattle.night_rules.specs.Rules.{scopes_of, routes_in}
use Rattle.night_rules.proofs.Laws.{same_run}

-- the links of scope i of the station of record n
abbrev pub depth_of : List ℕ → List ℕ → List ℕ → ℕ → ℕ → ℕ
depth_of p batch house n i = links_of (parents (image_at p batch house n)) (scopes_of p batch house n) i

-- records of the same tables; in each station the same counts, depths and routes; the same routes of the line
pub record SameAtNight (p q batch house : List ℕ) : Type 0 where
  pub tables : SameTables p q
  pub rows : (n : ℕ) → n < records_of p → is_of p 1 n ≡ true → (t : ℕ) → (image_at q batch house n).rows t ≡ (image_at p batch house n).rows t
  pub depths : (n : ℕ) → n < records_of p → is_of p 1 n ≡ true → (i : ℕ) → i < scopes_of p batch house n → depth_of q batch house n i ≡ depth_of p batch house n i
  pub own : (n : ℕ) → n < records_of p → is_of p 1 n ≡ true → (i : ℕ) → i < routes_in p batch house n → enclave_routes q n i ≡ enclave_routes p n i
  pub routes : (n : ℕ) → is_of p 23 n ≡ true → route_at q n ≡ route_at p n

-- a station's checks from their parts
parts_same :
    {a b c d : ℕ} {ws xs ys zs : List Check} → a ≡ b → c ≡ d → ws ≡ xs → ys ≡ zs
    → need (leb c 64) (TooManyReactors a c) ∷ (ws ++ ys) ≡ need (leb d 64) (TooManyReactors b d) ∷ (xs ++ zs)
parts_same e f g h = rw (e, f, g, h) refl

module _ (p q batch house : List ℕ) (s : SameAtNight p q batch house) where
  place_same : (n : ℕ) → enclaves_before q n ≡ enclaves_before p n
  place_same = same_places p q s.tables

  -- a station
  module _ (n : ℕ) (l : n < records_of p) (e : is_of p 1 n ≡ true) where
    abbrev depths : List ℕ → ℕ → List Check
    depths r = depth_checks (enclaves_before r n) (image_at r batch house n)

    abbrev domains : List ℕ → ℕ → List Check
    domains r = domain_checks (enclaves_before r n) (enclave_routes r n)

    scopes_same : run (depths q) 0 (scopes_of q batch house n) ≡ run (depths p) 0 (scopes_of p batch house n)
    unfolding depth_checks
    scopes_same =
        ap (run (depths q) 0) (s.rows n l e 7)
        ∙ same_run (depths p) (depths q) (scopes_of p batch house n) (λ i u. rw (s.depths n l e i u, place_same n) refl)

    own_routes_same : run (domains q) 0 (routes_in q batch house n) ≡ run (domains p) 0 (routes_in p batch house n)
    unfolding domain_checks
    own_routes_same =
        ap (run (domains q) 0) (s.rows n l e 23)
        ∙ same_run (domains p) (domains q) (routes_in p batch house n) (λ i u. rw (s.own n l e i u, place_same n) refl)

    station_same :
        night_enclave_checks (enclaves_before q n) (image_at q batch house n) (enclave_routes q n)
        ≡ night_enclave_checks (enclaves_before p n) (image_at p batch house n) (enclave_routes p n)
    unfolding night_enclave_checks reactors_checks
    station_same = parts_same (place_same n) (s.rows n l e 2) scopes_same own_routes_same

  record_same : (n : ℕ) → n < records_of p → night_record_checks q batch house n ≡ night_record_checks p batch house n
  unfolding night_record_checks
  record_same n l = rw (same_test p q s.tables 1 n) (cases (is_of p 1 n) (λ e. rw e (station_same n l e)) (λ e. rw e refl))

  -- a route, against all of its boundary
  unpaired_same : (text : IdentityPlace → List ℕ) (r : RouteImage) → unpaired_check text q r ≡ unpaired_check text p r
  unpaired_same text r = rw (same_halves p q s.tables s.routes text r _) refl

  unpaired_record_same : (text : IdentityPlace → List ℕ) (n : ℕ) → unpaired_record_checks text q n ≡ unpaired_record_checks text p n
  unfolding unpaired_record_checks
  unpaired_record_same text n =
      rw (same_test p q s.tables 23 n)
      (cases (is_of p 23 n) (λ e. rw e (rw (s.routes n e, unpaired_same text (route_at p n)) refl)) (λ e. rw e refl))

  pub checks_same : night_checks q batch house ≡ night_checks p batch house
  unfolding night_checks
  checks_same =
      rw (
        same_records p q s.tables,
        same_run (night_record_checks p batch house) (night_record_checks q batch house) (records_of p) record_same,
        same_run (unpaired_record_checks (identity_text batch house) p) (unpaired_record_checks (identity_text batch house) q) (records_of p) (λ n l. unpaired_record_same (identity_text batch house) n),
      )
      refl

-- a line is refused by day, or has a yes
yes_or :
    {A : Type 0} (o u : Outcome) (ns : List ℕ) → (unless o (unless u (0 ∷ ns)) ≡ 0 ∷ ns → A)
    → ((get_or (unless o (unless u (0 ∷ ns))) 0 0 ≡ 0 → ⊥) → A) → A
yes_or (Ok u) (Ok v) ns y n = y refl
yes_or (Ok u) (Err r) ns y n = n (λ e. let h = number-positive r in omega arith)
yes_or (Err r) u ns y n = n (λ e. let h = number-positive r in omega arith)

by_day :
    {A : Type 0} (p batch house : List ℕ) → ((s c : ℕ) → federate_answer p batch house ≡ 0 ∷ s ∷ c ∷ [] → A)
    → ((get_or (federate_answer p batch house) 0 0 ≡ 0 → ⊥) → A) → A
unfolding federate_answer packed_answer
by_day p batch house y n =
    yes_or (first (packing_checks Federate p batch house)) (first (federate_checks p batch house)) (enclaves_of p ∷ federate_links p batch house ∷ [])
    (y (enclaves_of p) (federate_links p batch house)) n

-- two lines with one answer by day, and after a yes the same checks at night, have one answer at night
pub night_follows :
    (p q batch house : List ℕ) → federate_answer q batch house ≡ federate_answer p batch house
    → (first (federate_checks p batch house) ≡ passed → night_checks q batch house ≡ night_checks p batch house)
    → night_answer q batch house ≡ night_answer p batch house
night_follows p q batch house s k =
    by_day p batch house
    (λ a b e.
    let c = k (line_checks p batch house a b e) in
    night_decides q batch house a b (s ∙ e)
    ∙ ap (λ (cs : List Check). unless (first cs) (0 ∷ a ∷ b ∷ [])) c
    ∙ sym (night_decides p batch house a b e))
    (λ o. day_stays q batch house (rw s o) ∙ s ∙ sym (day_stays p batch house o))
