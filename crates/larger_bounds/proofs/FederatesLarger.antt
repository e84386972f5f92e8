-- An answer for a federate pack other than a slot refusal is the answer with larger bounds. Assumes nothing.
use Prim.Native.Nat.{ℕ, zero, suc}
use mathlib.Core.Bool.{true}
use mathlib.Core.Path.{◌≡◌, refl}
use mathlib.Core.List.{List, [], ◌∷◌}
use borrow.Author.Tests.{eqb-true}
use Rattle.identity.specs.Text.{identity_text}
use Rattle.answers.specs.Numbers.{numbers}
use Rattle.answers.specs.Checks.{first}
use Rattle.answers.specs.Slots.{SlotRefusal}
use Rattle.answers.proofs.Looser.{Looser, done, looser-same, looser-append, looser-run, looser-stays}
use Rattle.schema.specs.Bytes.{byte_of}
use Rattle.schema.specs.Rows.{federate_at}
use Rattle.schema.specs.Records.{records_of, is_of}
use Rattle.scope_checks.specs.Links.{links}
use Rattle.enclave.specs.Passes.{enclave_checks}
use Rattle.federate.specs.Records.{enclaves_of}
use Rattle.federate.specs.Enclaves.{image_at, order_checks, record_checks, links_before}
use Rattle.route_pairs.specs.RoutePairs.{route_record_checks}
use Rattle.federate.specs.Federate.{metadata_checks, count_check, federate_checks}
use Rattle.federate.specs.Answer.{packed_answer, federate_answer}
use Rattle.packing.specs.declared.PackKind.TheVariants.{Federate}
use Rattle.packing.specs.Packing.{Packed}
use Rattle.packing.proofs.Packed.{first_is}
use Rattle.packing.proofs.SameTables.{SameTables, same_records, same_test}
use Rattle.federate.proofs.Parts.{own_single}
use Rattle.federate.proofs.SameEnclaves.{same_places, same_count, same_before, same_routes}
use Rattle.larger_bounds.specs.Packs.{DifferInStorage, NoBoundSmaller, SlotAnswer}
use Rattle.larger_bounds.specs.Federates.{FederateAnswerStays}
use Rattle.larger_bounds.proofs.SamePacks.{same_tables, identity-same}
use Rattle.larger_bounds.proofs.PacksLarger.{pack-looser, pack-links}
use Rattle.identity.proofs.Tests.{cases}
use Rattle.larger_bounds.proofs.SameFederates.{own-state, own-action, parts-differ, federate-same, route-same}

module _ (p q batch house : List ℕ) (d : DifferInStorage p q) (b : NoBoundSmaller p q) where
  tables : SameTables p q
  tables = same_tables p q d

  -- an enclave's own checks, and its links
  module _ (n : ℕ) (e : is_of p 1 n ≡ true) where
    own-looser : Looser (enclave_checks (image_at p batch house n)) (enclave_checks (image_at q batch house n))
    own-looser =
        let bounds = b n (eqb-true (byte_of p n 0) 1 e) in
        pack-looser _ _ batch house (parts-differ p q d n) (own_single p n)
        (rw (own-state p n, own-state q n) bounds.0)
        (rw (own-action p n, own-action q n) bounds.1)

    own-links : links (image_at q batch house n) ≡ links (image_at p batch house n)
    own-links = pack-links _ _ batch house (parts-differ p q d n) (own_single p n)

  order_same : (start n : ℕ) → order_checks q batch house start n ≡ order_checks p batch house start n
  order_same start n = rw (same_places p q tables n, identity-same p q d n, same_before p q tables n, identity-same p q d _)

  record-looser : (start n : ℕ) → Looser (record_checks p batch house start n) (record_checks q batch house start n)
  unfolding record_checks
  record-looser start n =
      rw (same_test p q tables 1 n)
      (cases (is_of p 1 n)
      (λ e. rw e (looser-append (own-looser n e) (rw (order_same start n) (looser-same _))))
      (λ e. rw e done))

  links-same : (n : ℕ) → links_before q batch house n ≡ links_before p batch house n
  unfolding links_before
  links-same zero = refl
  links-same (suc n) =
      let i = links-same n in
      rw (same_test p q tables 1 n, i)
      (cases (is_of p 1 n) (λ e. rw (e, own-links n e)) (λ e. rw e))

  route-looser : (n : ℕ) → Looser (route_record_checks (identity_text batch house) p n) (route_record_checks (identity_text batch house) q n)
  route-looser n = rw (same_routes p q tables (route-same p q d) (identity_text batch house) n) (looser-same _)

  module _ (z : byte_of p 0 0 ≡ 0) where
    federate-looser : Looser (federate_checks p batch house) (federate_checks q batch house)
    unfolding federate_checks
    federate-looser =
        rw (federate-same p q d z, same_count p q tables, same_records p q tables)
        (looser-append (looser-same (metadata_checks (identity_text batch house) (federate_at p 0)))
        (looser-append (looser-same (count_check (federate_at p 0) (enclaves_of p) ∷ []))
        (looser-append (looser-run _ _ (record-looser (federate_at p 0).enclaves.0.start) 0 (records_of p))
        (looser-run _ _ route-looser 0 (records_of p)))))

slot-answer :
    (p batch house : List ℕ) → Packed Federate p batch house → SlotRefusal (first (federate_checks p batch house))
    → SlotAnswer (federate_answer p batch house)
unfolding federate_answer packed_answer numbers
slot-answer p batch house h (t, i, s, k, e) = rw (h, e)

pub federate-stays : FederateAnswerStays
unfolding federate_answer packed_answer
federate-stays p q batch house h k d b o =
    let z = first_is Federate p batch house h in
    let l = federate-looser p q batch house d b z in
    let s = same_tables p q d in
    rw (h, k, looser-stays l (λ r. o (slot-answer p batch house h r)), same_count p q s, same_records p q s, links-same p q batch house d b (records_of p))
