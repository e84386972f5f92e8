-- What the packing rules say of the records of a pack that passes them. Assumes nothing.
use Prim.Native.Nat.{ℕ, zero, suc, ◌-◌, ◌/◌, ◌%◌, ◌<◌, ◌≤◌}
use mathlib.Core.Bool.{true}
use mathlib.Core.Path.{◌≡◌, refl}
use mathlib.Core.List.{List}
use native.Mathlib.Decide.{dec_le}
use native.Mathlib.Omega.{arith}
use lib.Dec.{ltb, leb, eqb}
use lib.ListN.{length, get_or-eq_default}
use borrow.Author.Tests.{ltb-true, leb-true, eqb-true}
use Rattle.answers.proofs.Passed.{Passes, test, rest, item}
use Rattle.schema.specs.Tables.{tables}
use Rattle.schema.specs.Bytes.{byte_of}
use Rattle.packing.specs.declared.PackKind.{PackKind}
use Rattle.packing.specs.declared.PackKind.TheVariants.{Enclave}
use Rattle.packing.specs.Packing.{first_table, table_after, in_place, record_checks, packing_checks, Packed}
use Rattle.identity.proofs.Tests.{both}

-- the first record's place, and the place of one after another
pub place_first : (kind : PackKind) (p : List ℕ) (n : ℕ) → n ≡ 0 → in_place kind p n ≡ eqb (byte_of p n 0) (first_table kind)
place_first kind p n e = rw e

pub place_after : (kind : PackKind) (p : List ℕ) (n : ℕ) → (n ≡ 0 → ⊥) → in_place kind p n ≡ table_after kind (byte_of p (n - 1) 0) (byte_of p n 0)
place_after kind p zero e = absurd (e refl)
place_after kind p (suc n) e = let m : suc n - 1 ≡ n = omega arith in rw m

pub ruleset place_laws = (place_first, place_after)

-- whole records, not too many, and one at least
pub record PackLength (n : ℕ) : Type 0 where
  pub some : 0 < n
  pub few : n ≤ 4194304
  pub whole : n % 64 ≡ 0

module _ (kind : PackKind) (p batch house : List ℕ) (h : Packed kind p batch house) where
  pub fits : PackLength (length p)
  unfolding packing_checks
  fits =
      let w : Passes (packing_checks kind p batch house) = record { is = h } in
      let a = both (ltb 0 (length p)) _ (test w) in
      let b = both (leb (length p) 4194304) _ a.1 in
      record { some = ltb-true 0 (length p) a.0; few = leb-true (length p) 4194304 b.0; whole = eqb-true (length p % 64) 0 b.1 }

  pub placed-at : (n : ℕ) → n < length p / 64 → in_place kind p n ≡ true
  unfolding packing_checks record_checks
  placed-at n l =
      let w : Passes (packing_checks kind p batch house) = record { is = h } in
      test (item (record_checks kind p batch house) (length p / 64) (rest (rest (rest w))) n l)

  -- the first record is of the kind's first table; a record past the end counts as one of table 0
  pub first_is : byte_of p 0 0 ≡ first_table kind
  first_is =
      let f = fits in
      let l = f.some in
      let w = f.whole in
      eqb-true (byte_of p 0 0) (first_table kind) (placed-at 0 (omega arith))

  pub past_end : (n : ℕ) → length p / 64 ≤ n → byte_of p n 0 ≡ 0
  past_end n l = get_or-eq_default p 0 (let f = fits in let w = f.whole in omega arith)

module _ (p batch house : List ℕ) (h : Packed Enclave p batch house) where
  -- from record 1 on, the tables are 2 or above, and rise; none is an enclave's record
  pub rows_above : (n : ℕ) → suc n < length p / 64 → (2 ≤ byte_of p (suc n) 0) × (byte_of p n 0 ≤ byte_of p (suc n) 0)
  rows_above n l =
      let e = both (leb 2 (byte_of p (suc n) 0)) _ (placed-at Enclave p batch house h (suc n) l) in
      let f = both (ltb (byte_of p (suc n) 0) tables) _ e.1 in
      (leb-true 2 (byte_of p (suc n) 0) e.0, leb-true (byte_of p n 0) (byte_of p (suc n) 0) f.1)

  pub one_enclave : (n : ℕ) → byte_of p (suc n) 0 ≡ 1 → ⊥
  one_enclave n e =
      elim (dec_le (length p / 64) (suc n)) [
        | yes g ↦ (let z = past_end Enclave p batch house h (suc n) g in omega arith)
        | no g ↦ (let r = rows_above n (omega arith) in omega arith)
      ]
