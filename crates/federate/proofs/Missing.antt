-- A 12 of a federate's checks is one of its enclaves'. Assumes nothing.
use Prim.Native.Nat.{ℕ, ◌<◌}
use mathlib.Core.Bool.{true, true≢false}
use mathlib.Core.Path.{◌≡◌, refl, ◌∙◌, sym}
use mathlib.Core.List.{List, [], ◌∷◌}
use native.Mathlib.Omega.{arith}
use lib.ListN.{get_or}
use Rattle.std.specs.Prelude.{Ok, Err}
use Rattle.identity.proofs.Tests.{cases}
use Rattle.identity.specs.Text.{identity_text}
use Rattle.answers.specs.declared.Refusal.{Refusal}
use Rattle.answers.specs.Numbers.{numbers}
use Rattle.answers.specs.Checks.{Check, first, Outcome}
use Rattle.answers.proofs.Each.{none, each-run, each-first, each_laws, refused_append, refused_run}
use Rattle.schema.specs.Rows.{federate_at}
use Rattle.schema.specs.Records.{records_of, is_of}
use Rattle.packing.specs.declared.PackKind.TheVariants.{Federate}
use Rattle.packing.specs.Packing.{packing_checks}
use Rattle.route_pairs.specs.RoutePairs.{route_record_checks}
use Rattle.enclave.specs.Passes.{enclave_checks}
use Rattle.enclave.specs.Answer.{unless, image_answer}
use Rattle.enclave.proofs.EachPass.{is_missing, WithoutMissing}
use Rattle.enclave.proofs.Missing.{image_tells, packing_without}
use Rattle.federate.specs.Records.{enclaves_of}
use Rattle.federate.specs.Enclaves.{image_at, order_checks, record_checks}
use Rattle.federate.specs.Federate.{metadata_checks, count_check, federate_checks}
use Rattle.federate.specs.Answer.{federate_links, packed_answer, federate_answer}
use Rattle.federate.specs.Missing.{FederateTellsRows}

-- what a list without a 12 answers is none
not_missing : {X : Type 0} {cs : List Check} {r : Refusal} → WithoutMissing cs → is_missing r ≡ true → first cs ≡ Err r → X
not_missing w t e = absurd (true≢false (sym t ∙ each-first w e))

module _ (p batch house : List ℕ) where
  metadata_without : WithoutMissing (metadata_checks (identity_text batch house) (federate_at p 0))
  unfolding metadata_checks numbers
  metadata_without = search each_laws

  count_without : WithoutMissing (count_check (federate_at p 0) (enclaves_of p) ∷ [])
  unfolding numbers
  count_without = search each_laws

  order_without : (start n : ℕ) → WithoutMissing (order_checks p batch house start n)
  unfolding numbers
  order_without start n = search each_laws

  routes_without : (n : ℕ) → WithoutMissing (route_record_checks (identity_text batch house) p n)
  unfolding route_record_checks numbers
  routes_without n = cases (is_of p 23 n) (λ e. rw e (search each_laws)) (λ e. rw e none)

  -- the enclave of record n answers the refusal r
  abbrev Refused : Refusal → ℕ → Type 0
  Refused r n = (n < records_of p) × (is_of p 1 n ≡ true) × (first (enclave_checks (image_at p batch house n)) ≡ Err r)

  of_record : (start n : ℕ) {r : Refusal} → is_missing r ≡ true → n < records_of p → first (record_checks p batch house start n) ≡ Err r → Refused r n
  unfolding record_checks
  of_record start n t l e =
      cases (is_of p 1 n)
      (λ y.
      refused_append (enclave_checks (image_at p batch house n)) (order_checks p batch house start n)
      (λ a. (l, y, a))
      (not_missing (order_without start n) t)
      (rw y at e))
      (λ y. not_missing none t (rw y at e))

  of_enclave : {r : Refusal} → is_missing r ≡ true → first (federate_checks p batch house) ≡ Err r → (n : ℕ) × Refused r n
  unfolding federate_checks
  of_enclave t e =
      let start = (federate_at p 0).enclaves.0.start in
      refused_append _ _ (not_missing metadata_without t)
      (refused_append _ _ (not_missing count_without t)
      (refused_append _ _
      (refused_run (record_checks p batch house start) 0 (records_of p) (λ n l u h. (n, of_record start n t (omega arith) h)))
      (not_missing (each-run routes_without 0 (records_of p)) t))) e

  -- the answer is that of the enclave of some record; so is one that begins with 12, past the packing rules, and then of any pack
  abbrev Of : List ℕ → Type 0
  Of answer = (n : ℕ) × (n < records_of p) × (is_of p 1 n ≡ true) × (answer ≡ image_answer (image_at p batch house n))

  abbrev accepted : List ℕ
  accepted = 0 ∷ enclaves_of p ∷ federate_links p batch house ∷ []

  of_packed : (o : Outcome) → first (federate_checks p batch house) ≡ o → get_or (unless o accepted) 0 0 ≡ 12 → Of (unless o accepted)
  unfolding image_answer
  of_packed (Ok u) x e = absurd (omega arith)
  of_packed (Err r) x e =
      let h = of_enclave (rw e refl) x in
      (h.0, h.1.0, h.1.1, rw h.1.2 refl)

  of_any :
      (o : Outcome) → first (packing_checks Federate p batch house) ≡ o
      → get_or (unless o (packed_answer p batch house)) 0 0 ≡ 12 → Of (unless o (packed_answer p batch house))
  unfolding packed_answer
  of_any (Ok u) x e = of_packed (first (federate_checks p batch house)) refl e
  of_any (Err r) x e = not_missing (packing_without Federate p batch house) (rw e refl) x

pub federate_tells_rows : FederateTellsRows
unfolding federate_answer
federate_tells_rows p batch house e =
    let h = of_any p batch house (first (packing_checks Federate p batch house)) refl e in
    (h.0, h.1, h.2, h.3, rw h.3 (image_tells (image_at p batch house h.0)))
