-- What the contracts say of functions that only this crate calls. Assumes nothing.
use Rattle.std.specs.Prelude.{ℕ, ◌+◌, ◌*◌, ◌-◌, ◌<◌, ◌≤◌, ◌≡◌, List, [], ◌∷◌, get_or, length}
use Rattle.schema.specs.Layout.{Field, W, D, W-if}
use Rattle.schema.specs.Bytes.{byte_of}
use Rattle.convert.specs.Turned.{turned_byte}

-- which words of some fields begin a D: a bit for each word, the lowest first
abbrev pub longs_in : List Field → ℕ
longs_in [] = 0
longs_in (W ∷ fs) = 2 * longs_in fs
longs_in (W-if k ∷ fs) = 2 * longs_in fs
longs_in (D ∷ fs) = 1 + 4 * longs_in fs

-- b is the record a with its k bytes from j on set to those of record n of p there, in the other order
pub record Turns (k : ℕ) (p : List ℕ) (n j : ℕ) (a b : List ℕ) : Type 0 where
  pub sized : length b ≡ length a
  pub these : (i : ℕ) → i < k → get_or b (j + i) 0 ≡ byte_of p n (j + (k - 1 - i))
  pub before : (i : ℕ) → i < j → get_or b i 0 ≡ get_or a i 0
  pub after : (i : ℕ) → j + k ≤ i → get_or b i 0 ≡ get_or a i 0

-- b is record n of p, turned round
pub record IsTurnedRecord (p : List ℕ) (n : ℕ) (b : List ℕ) : Type 0 where
  pub sized : length b ≡ 64
  pub bytes : (j : ℕ) → j < 64 → get_or b j 0 ≡ turned_byte p n j
