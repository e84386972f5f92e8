-- A row depends only on the bytes of its record: on its 64 bytes, and on the next four for a field past the last one, which no row has.
-- Assumes nothing.
use Prim.Native.Nat.{ℕ, zero, suc, ◌+◌, ◌*◌, ◌<◌, ◌≤◌}
use mathlib.Core.Path.{◌≡◌, refl, fun_ext}
use mathlib.Core.List.{List, [], ◌∷◌}
use native.Mathlib.Omega.{arith}
use lib.ListN.{get_or}
use Rattle.schema.specs.Number.{number}
use Rattle.schema.specs.Layout.{Field, W, bytes, Layout, offset_from, offset, field_at}
use Rattle.schema.specs.Bytes.{byte_of}
use Rattle.schema.specs.Rows.{field, row}
use Rattle.packing.specs.Shape.{end_from, used}

-- fields follow one another, so each ends where the last one ends or before; one past them is taken for a W
end_after : (o : ℕ) (fs : List Field) → o ≤ end_from o fs
end_after o [] = omega arith
end_after o (f ∷ fs) = let h = end_after (o + bytes f) fs in omega arith

field_end : (o : ℕ) (fs : List Field) (k : ℕ) → offset_from o fs k + bytes (get_or fs k W) ≤ end_from o fs + 4
field_end o [] zero = omega arith
field_end o [] (suc k) = omega arith
field_end o (f ∷ fs) zero = let h = end_after (o + bytes f) fs in omega arith
field_end o (f ∷ fs) (suc k) = field_end (o + bytes f) fs k

-- record m of q has the bytes of record n of p
module _ (p q : List ℕ) (n m : ℕ) where
  pub number_same : (k o : ℕ) → ((j : ℕ) → j < o + k → byte_of q m j ≡ byte_of p n j) → number k q (m * 64 + o) ≡ number k p (n * 64 + o)
  unfolding number
  number_same zero o h = refl
  number_same (suc k) o h =
      let e : m * 64 + o + k ≡ m * 64 + (o + k) = omega arith in
      let f : n * 64 + o + k ≡ n * 64 + (o + k) = omega arith in
      rw (number_same k o (λ j l. h j (omega arith)), e, f, h (o + k) (omega arith))

  pub row_same :
      {A : Type 0} (of : (ℕ → ℕ) → ℕ → ℕ → A) (l : Layout) → used l ≤ 64 → ((j : ℕ) → j < 68 → byte_of q m j ≡ byte_of p n j)
      → row of l q m ≡ row of l p n
  row_same of l u h =
      let fields : field q m l ≡ field p n l = fun_ext (λ k. number_same (bytes (field_at l k)) (offset l k) (λ j i. h j (let e = field_end 4 l.fields k in omega arith))) in
      rw (fields, h 1 (omega arith), h 2 (omega arith))
