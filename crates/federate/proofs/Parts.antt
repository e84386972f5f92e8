-- The packs of the enclaves of a federate pack: each has one enclave, and in a pack that passes the packing rules its tables rise. Assumes nothing.
use Prim.Native.Nat.{ℕ, zero, suc, ◌+◌, ◌-◌, ◌*◌, ◌/◌, ◌<◌, ◌≤◌}
use mathlib.Core.Bool.{true, true≢false}
use mathlib.Core.Path.{◌≡◌, ◌∙◌, ap, sym}
use mathlib.Core.List.{List}
use native.Mathlib.Decide.{dec_le}
use native.Mathlib.Omega.{arith}
use lib.Dec.{ltb, leb}
use lib.ListN.{length}
use borrow.Author.Tests.{leb-true, eqb-true, eq-eqb, ne_eqb}
use Rattle.identity.proofs.Tests.{cases, both}
use Rattle.schema.specs.Tables.{tables}
use Rattle.schema.specs.Bytes.{byte_of}
use Rattle.schema.specs.Records.{records_of, is_of}
use Rattle.schema.proofs.Counts.{records_inside, records_few}
use Rattle.packing.specs.declared.PackKind.TheVariants.{Federate}
use Rattle.packing.specs.Packing.{Packed}
use Rattle.packing.proofs.Packed.{placed-at}
use Rattle.packing.proofs.Records.{records_all, some_record}
use Rattle.packing.proofs.TableRows.{RowsRise}
use Rattle.federate.specs.Records.{enclave_from}
use Rattle.federate.proofs.PartBytes.{own, many, byte_inside, byte-outside}
use Rattle.federate.proofs.Ends.{from-within, end-within, part-length, part-whole, part_some}

-- no record between an enclave's own and its end is an enclave's
before_end : (p : List ℕ) (k a n : ℕ) → a ≤ n → n < enclave_from p a k → is_of p 1 n ≡ true → ⊥
unfolding enclave_from
before_end p zero a n l u e = absurd (omega arith)
before_end p (suc k) a n l u e =
    cases (is_of p 1 a)
    (λ b. let v = rw b at u in absurd (omega arith))
    (λ b.
    let v = rw b at u in
    elim (dec_le n a) [
      | yes g ↦ (let x : a ≡ n = omega arith in absurd (true≢false (sym e ∙ rw x at b)))
      | no g ↦ before_end p k (suc a) n (omega arith) v e
    ])

module _ (p : List ℕ) (n : ℕ) where
  own_bytes : 64 ≤ many p n
  own_bytes = let h = (from-within p (records_of p - suc n) (suc n)).0 in omega arith

  -- its own record's bytes
  pub own_byte : (j : ℕ) → j < 64 → byte_of (own p n) 0 j ≡ byte_of p n j
  own_byte j l = let h = own_bytes in let e : n + 0 ≡ n = omega arith in byte_inside p n 0 j (omega arith) ∙ ap (λ (k : ℕ). byte_of p k j) e

  -- its own record is its only enclave's
  pub own_single : (m : ℕ) → byte_of (own p n) (suc m) 0 ≡ 1 → ⊥
  own_single m e =
      elim (dec_le (many p n) (suc m * 64 + 0)) [
        | yes g ↦ (let z = byte-outside p n (suc m) 0 g in absurd (omega arith))
        | no g ↦ before_end p (records_of p - suc n) (suc n) (n + suc m) (omega arith) (omega arith) (eq-eqb _ _ (sym (byte_inside p n (suc m) 0 (omega arith)) ∙ e))
      ]

-- in a pack that passes the packing rules
module _ (p batch house : List ℕ) (h : Packed Federate p batch house) (n : ℕ) (l : n < records_of p) where
  part_above :
      (k : ℕ) → suc k < length (own p n) / 64
      → (2 ≤ byte_of (own p n) (suc k) 0) × (byte_of (own p n) k 0 ≤ byte_of (own p n) (suc k) 0)
  part_above k u =
      let size = part-length p n l in
      let end = (end-within p n l).1 in
      let few = records_inside p in
      let x : n + suc k ≡ suc (n + k) = omega arith in
      let y = byte_inside p n k 0 (omega arith) in
      let z = byte_inside p n (suc k) 0 (omega arith) in
      let f = placed-at Federate p batch house h (suc (n + k)) (omega arith) in
      let o : byte_of p (suc (n + k)) 0 ≡ 1 → ⊥ = λ w. own_single p n k (z ∙ rw x w) in
      let g = rw (ne_eqb (byte_of p (suc (n + k)) 0) 1 o) at f in
      let v = (both (leb 1 (byte_of p (n + k) 0)) _ g).1 in
      let t = both (leb 2 (byte_of p (suc (n + k)) 0)) _ v in
      let c = leb-true (byte_of p (n + k) 0) (byte_of p (suc (n + k)) 0) (both (ltb (byte_of p (suc (n + k)) 0) tables) _ t.1).1 in
      (rw (z, x) (leb-true 2 (byte_of p (suc (n + k)) 0) t.0), rw (y, z, x) c)

  pub part_rises : RowsRise (own p n)
  part_rises =
      let size = part-length p n l in
      let end = (end-within p n l).1 in
      let few = records_few p in
      let some = some_record (own p n) (part_some p n l) (part-whole p n l) in
      record { some = some; all = records_all (own p n) (omega arith); above = part_above }

  pub part_first : is_of p 1 n ≡ true → byte_of (own p n) 0 0 ≡ 1
  part_first e = own_byte p n 0 (omega arith) ∙ eqb-true (byte_of p n 0) 1 e
