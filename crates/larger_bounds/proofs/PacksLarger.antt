-- An answer for an enclave pack other than a slot refusal is the answer with larger bounds. Assumes nothing.
use Prim.Native.Nat.{ℕ, suc, ◌≤◌}
use mathlib.Core.Path.{◌≡◌, refl, ◌∙◌, sym, ap}
use mathlib.Core.List.{List}
use Rattle.answers.specs.Numbers.{numbers}
use Rattle.answers.specs.Checks.{first}
use Rattle.answers.specs.Slots.{SlotRefusal}
use Rattle.answers.proofs.Looser.{Looser, looser-stays}
use Rattle.schema.specs.Bytes.{byte_of}
use Rattle.packing.specs.declared.PackKind.TheVariants.{Enclave}
use Rattle.packing.specs.Starts.{table_starts}
use Rattle.packing.proofs.Packed.{first_is, one_enclave}
use Rattle.packing.proofs.SameTables.{same_starts}
use Rattle.checks.specs.Image.{Image, image}
use Rattle.scope_checks.specs.Links.{links}
use Rattle.enclave.specs.Passes.{pass_checks, checks_of, enclave_checks}
use Rattle.enclave.specs.Answer.{image_answer, pack_image}
use Rattle.larger_bounds.specs.Images.{with_bounds}
use Rattle.larger_bounds.specs.Packs.{state_bound, action_bound, DifferInStorage, SlotAnswer, EnclaveAnswerStays}
use Rattle.enclave.proofs.Whole.{pack_answer}
use Rattle.enclave.proofs.Opened.{the_passes, the_rows, the_lists}
use Rattle.larger_bounds.proofs.Larger.{enclave-looser}
use Rattle.larger_bounds.proofs.SamePacks.{in_tables, same_tables, image-same}

-- the checks look at no list but those of the tables
in-tables-same : (m : Image) → enclave_checks (in_tables m) ≡ enclave_checks m
unfolding enclave_checks checks_of pass_checks the_passes the_rows the_lists
in-tables-same m = refl

-- a slot refusal of the checks is one of the answer
slot-answer : (m : Image) → SlotRefusal (first (enclave_checks m)) → SlotAnswer (image_answer m)
unfolding image_answer numbers
slot-answer m (t, i, s, b, e) = rw e

-- two packs whose only enclave is record 0's
module _ (p q batch house : List ℕ) (d : DifferInStorage p q) (single : (n : ℕ) → byte_of p (suc n) 0 ≡ 1 → ⊥) where
  abbrev m : Image
  m = pack_image p batch house

  checks-same : enclave_checks (pack_image q batch house) ≡ enclave_checks (with_bounds (in_tables m) (state_bound q 0) (action_bound q 0))
  checks-same =
      ap (λ x. enclave_checks (image q batch house x 0)) (same_starts p q (same_tables p q d) 1)
      ∙ sym (in-tables-same (image q batch house (table_starts p 1) 0))
      ∙ ap enclave_checks (image-same p q d batch house single)

  -- the checks of the one with the larger bounds are looser
  pub pack-looser :
      state_bound p 0 ≤ state_bound q 0 → action_bound p 0 ≤ action_bound q 0
      → Looser (enclave_checks m) (enclave_checks (pack_image q batch house))
  pack-looser h g = rw (checks-same, ← in-tables-same m) (enclave-looser (in_tables m) (state_bound q 0) (action_bound q 0) h g)

  pub pack-links : links (pack_image q batch house) ≡ links m
  pack-links =
      ap (λ x. links (image q batch house x 0)) (same_starts p q (same_tables p q d) 1)
      ∙ ap links (image-same p q d batch house single)

  pub pack-stays :
      state_bound p 0 ≤ state_bound q 0 → action_bound p 0 ≤ action_bound q 0 → (SlotAnswer (image_answer m) → ⊥)
      → image_answer (pack_image q batch house) ≡ image_answer m
  unfolding image_answer
  pack-stays h g o = rw (looser-stays (pack-looser h g) (λ r. o (slot-answer m r)), pack-links)

pub answer-stays : EnclaveAnswerStays
answer-stays p q batch house h k d b o =
    let bounds = b 0 (first_is Enclave p batch house h) in
    pack_answer q batch house k
    ∙ pack-stays p q batch house d (one_enclave p batch house h) bounds.0 bounds.1 (λ e. o (rw (pack_answer p batch house h) e))
    ∙ sym (pack_answer p batch house h)
