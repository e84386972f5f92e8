-- Two lines' packs that differ only in what is not looked at have one answer. Assumes nothing.
use Prim.Native.Nat.{ℕ, zero, suc, ◌<◌, ◌≤◌}
use mathlib.Core.Bool.{true}
use mathlib.Core.Path.{◌≡◌, refl, ◌∙◌, sym}
use mathlib.Core.List.{List, [], ◌∷◌}
use native.Mathlib.Omega.{arith}
use borrow.Author.Tests.{eqb-true}
use Rattle.std.specs.Prelude.{Ok, Err}
use Rattle.identity.proofs.Tests.{cases}
use Rattle.identity.specs.Text.{identity_text}
use Rattle.answers.specs.Checks.{first, Outcome, passed}
use Rattle.answers.proofs.Alike.{Alike, alike_same, alike_append, alike_run}
use Rattle.schema.specs.Bytes.{byte_of}
use Rattle.schema.specs.Rows.{federate_at}
use Rattle.schema.specs.Records.{records_of, is_of}
use Rattle.packing.specs.declared.PackKind.TheVariants.{Enclave, Federate}
use Rattle.packing.specs.Packing.{Packed}
use Rattle.packing.proofs.Packed.{first_is}
use Rattle.packing.proofs.SameTables.{SameTables, same_records, same_test}
use Rattle.enclave.specs.Passes.{enclave_checks}
use Rattle.enclave.specs.Answer.{unless}
use Rattle.route_pairs.specs.RoutePairs.{route_record_checks}
use Rattle.federate.specs.Records.{enclaves_of, enclave_pack}
use Rattle.federate.specs.Enclaves.{image_at, order_checks, record_checks, links_before}
use Rattle.federate.specs.Federate.{metadata_checks, count_check, federate_checks}
use Rattle.federate.specs.Answer.{packed_answer}
use Rattle.federate.proofs.Whole.{line_answer}
use Rattle.federate.proofs.Accepted.{enclave_passes}
use Rattle.federate.proofs.Parts.{part_rises, part_first}
use Rattle.federate.proofs.SameEnclaves.{same_places, same_count, same_before, same_routes}
use Rattle.unlooked.specs.Images.{SameRows}
use Rattle.unlooked.specs.Packs.{DifferUnlooked, FederateAnswerSame}
use Rattle.unlooked.proofs.Images.{checks_alike, links_alike}
use Rattle.unlooked.proofs.Bytes.{same_tables, line_differs}
use Rattle.unlooked.proofs.RecordRows.{federate_same, route_same}
use Rattle.unlooked.proofs.Packs.{images_same}
use Rattle.unlooked.proofs.Parts.{parts_differ, own_id, before_id}

module _ (p q batch house : List ℕ) (h : Packed Federate p batch house) (d : DifferUnlooked Federate p q) where
  s : SameTables p q
  s = same_tables Federate p q d

  e : DifferUnlooked Enclave p q
  e = line_differs p q d

  -- an enclave's image
  own_same : (n : ℕ) → n < records_of p → is_of p 1 n ≡ true → SameRows (image_at p batch house n) (image_at q batch house n)
  own_same n l o =
      images_same (enclave_pack p n) (enclave_pack q n) (parts_differ Enclave p q e n) batch house
      (part_first p batch house h n l o) (part_rises p batch house h n l)

  order_same : (from n : ℕ) → is_of p 1 n ≡ true → order_checks q batch house from n ≡ order_checks p batch house from n
  order_same from n o = rw (same_places p q s n, own_id p q e n o, same_before p q s n, before_id p q e n (first_is Federate p batch house h)) refl

  record_alike : (from n : ℕ) → n < records_of p → Alike (record_checks p batch house from n) (record_checks q batch house from n)
  unfolding record_checks
  record_alike from n l =
      rw (same_test p q s 1 n)
      (cases (is_of p 1 n)
      (λ o. rw o (alike_append (checks_alike _ _ (own_same n l o)) (λ _. rw (order_same from n o) (alike_same _))))
      (λ o. rw o (alike_same [])))

  -- the links, where each enclave's checks pass
  links_same :
      ((n : ℕ) → n < records_of p → is_of p 1 n ≡ true → first (enclave_checks (image_at p batch house n)) ≡ passed)
      → (n : ℕ) → n ≤ records_of p → links_before q batch house n ≡ links_before p batch house n
  unfolding links_before
  links_same w zero l = refl
  links_same w (suc n) l =
      let i = links_same w n (omega arith) in
      rw (same_test p q s 1 n, i)
      (cases (is_of p 1 n)
      (λ o. rw (o, links_alike _ _ (own_same n (omega arith) o) (w n (omega arith) o)) refl)
      (λ o. rw o refl))

  routes_same : (n : ℕ) → route_record_checks (identity_text batch house) q n ≡ route_record_checks (identity_text batch house) p n
  routes_same n = same_routes p q s (λ k o. route_same p q d k (eqb-true (byte_of p k 0) 23 o)) (identity_text batch house) n

  federate_alike : Alike (federate_checks p batch house) (federate_checks q batch house)
  unfolding federate_checks
  federate_alike =
      rw (federate_same p q e 0 (first_is Federate p batch house h), same_count p q s, same_records p q s)
      (alike_append (alike_same (metadata_checks (identity_text batch house) (federate_at p 0)))
      (λ _. alike_append (alike_same (count_check (federate_at p 0) (enclaves_of p) ∷ []))
      (λ _. alike_append (alike_run (record_alike (federate_at p 0).enclaves.0.start))
      (λ _. alike_run (λ n l. rw (routes_same n) (alike_same _))))))

  numbers_same :
      (o : Outcome) → first (federate_checks p batch house) ≡ o
      → unless o (0 ∷ enclaves_of p ∷ links_before q batch house (records_of p) ∷ [])
      ≡ unless o (0 ∷ enclaves_of p ∷ links_before p batch house (records_of p) ∷ [])
  numbers_same (Ok u) w = rw (links_same (enclave_passes p batch house w) (records_of p) (omega arith)) refl
  numbers_same (Err r) w = refl

  packed_same : packed_answer q batch house ≡ packed_answer p batch house
  unfolding packed_answer
  packed_same = rw (federate_alike.is, same_count p q s, same_records p q s) (numbers_same (first (federate_checks p batch house)) refl)

pub federate_answer_same : FederateAnswerSame
federate_answer_same p q batch house h k d = line_answer q batch house k ∙ packed_same p q batch house h d ∙ sym (line_answer p batch house h)
