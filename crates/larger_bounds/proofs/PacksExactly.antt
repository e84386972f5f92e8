-- An enclave pack is accepted exactly when it is without the slot checks and every slot used is below its bound. Assumes nothing.
use Prim.Native.Nat.{ℕ, zero, suc, ◌+◌, ◌-◌, ◌/◌, ◌<◌, ◌≤◌}
use mathlib.Core.Path.{◌≡◌, refl, ap}
use mathlib.Core.List.{List, [], ◌∷◌}
use native.Mathlib.Omega.{arith}
use lib.ListN.{length, get_or}
use Rattle.std.specs.Prelude.{Ok, Err}
use Rattle.answers.specs.Numbers.{numbers}
use Rattle.answers.specs.Checks.{first, passed, Outcome}
use Rattle.answers.specs.Slots.{without_slots}
use Rattle.answers.proofs.RefusalNumbers.{number-positive}
use Rattle.schema.specs.Bytes.{byte_of}
use Rattle.schema.specs.Tables.{tables, start_of, rows_of}
use Rattle.packing.specs.declared.PackKind.TheVariants.{Enclave}
use Rattle.packing.specs.Packing.{Packed}
use Rattle.packing.specs.Starts.{table_starts}
use Rattle.packing.proofs.Packed.{first_is}
use Rattle.packing.proofs.TableRows.{rows_by_byte}
use Rattle.checks.specs.Image.{Image}
use Rattle.scope_checks.specs.Links.{links}
use Rattle.enclave.specs.Passes.{enclave_checks}
use Rattle.enclave.specs.Answer.{unless, image_answer, pack_image, enclave_answer}
use Rattle.larger_bounds.specs.Images.{SlotsBelow}
use Rattle.larger_bounds.specs.Packs.{answer_without_slots, SlotsUsedBelow, EnclaveAcceptedExactly}
use Rattle.larger_bounds.proofs.Exactly.{accepted-exactly}

-- an answer that is acceptance is no refusal's
accepted-passed : (o : Outcome) (ns : List ℕ) (n : ℕ) → unless o ns ≡ 0 ∷ n ∷ [] → (o ≡ passed) × (ns ≡ 0 ∷ n ∷ [])
accepted-passed (Ok u) ns n e = (refl, e)
accepted-passed (Err r) ns n e =
    let h : get_or (numbers r) 0 0 ≡ 0 = ap (λ xs. get_or xs 0 0) e in
    absurd (omega (arith, number-positive r))

module _ (p batch house : List ℕ) (h : Packed Enclave p batch house) where
  abbrev m : Image
  m = pack_image p batch house

  abbrev start : ℕ → ℕ
  start t = start_of (table_starts p 1) t

  -- row i of table t is a record of it, and a record of a table of rows is such a row
  row_at : (t i : ℕ) → t < tables → i < rows_of (table_starts p 1) t → (start t + i < length p / 64) × (byte_of p (start t + i) 0 ≡ t)
  row_at t i k l = let r = (rows_by_byte p batch house h t (start t + i) k).0 (omega arith, omega arith) in (r.1, r.2)

  record_at : (t n : ℕ) → 2 ≤ t → t < tables → n < length p / 64 → byte_of p n 0 ≡ t → (n - start t < rows_of (table_starts p 1) t) × (start t + (n - start t) ≡ n)
  record_at t zero g k l e = let z = first_is Enclave p batch house h in absurd (omega arith)
  record_at t (suc n) g k l e = let r = (rows_by_byte p batch house h t (suc n) k).1 (omega arith, l, e) in (omega (arith, r.0, r.1), omega (arith, r.0))

  used-slots : SlotsUsedBelow p → SlotsBelow m
  used-slots u = (
    (λ i l. let r = row_at 2 i (omega arith) l in (u (start 2 + i) r.0).0 r.1),
    (λ i l. let r = row_at 3 i (omega arith) l in (u (start 3 + i) r.0).1 r.1),
  )

  slots-used : SlotsBelow m → SlotsUsedBelow p
  slots-used b n l = (
    (λ e. let r = record_at 2 n (omega arith) (omega arith) l e in rw r.1 at (b.0 (n - start 2) r.0)),
    (λ e. let r = record_at 3 n (omega arith) (omega arith) l e in rw r.1 at (b.1 (n - start 3) r.0)),
  )

  accepted : (n : ℕ) → enclave_answer p batch house ≡ 0 ∷ n ∷ [] → (answer_without_slots p batch house ≡ 0 ∷ n ∷ []) × SlotsUsedBelow p
  unfolding enclave_answer image_answer answer_without_slots
  accepted n e =
      let a = accepted-passed (first (enclave_checks m)) (0 ∷ links m ∷ []) n (rw h at e) in
      let x = (accepted-exactly m).0 a.0 in
      (rw (h, x.0) a.1, slots-used x.1)

  without : (n : ℕ) → answer_without_slots p batch house ≡ 0 ∷ n ∷ [] → SlotsUsedBelow p → enclave_answer p batch house ≡ 0 ∷ n ∷ []
  unfolding enclave_answer image_answer answer_without_slots
  without n e u =
      let a = accepted-passed (first (without_slots (enclave_checks m))) (0 ∷ links m ∷ []) n (rw h at e) in
      rw (h, (accepted-exactly m).1 (a.0, used-slots u)) a.1

pub enclave-accepted-exactly : EnclaveAcceptedExactly
enclave-accepted-exactly p batch house h n = (accepted p batch house h n, λ x. without p batch house h n x.0 x.1)
