-- A pack with every number turned round, and a number read low byte first (document 02, Wish 6). Assumes nothing.
use Rattle.std.specs.Prelude.{ℕ, zero, suc, ◌+◌, ◌*◌, ◌-◌, ◌/◌, ◌%◌, cond, List, [], ◌∷◌, map, ltb, get_or, length}
use Rattle.std.specs.List.{range_with_len}
use Rattle.schema.specs.Layout.{Field, bytes, Layout}
use Rattle.schema.specs.Bytes.{byte_of}
use Rattle.packing.specs.Shape.{layout_of}

-- where byte j goes: to the other end of its number, of those from byte o on; past the last number it stays
unfoldable pub other_end : ℕ → List Field → ℕ → ℕ
other_end o [] j = j
other_end o (f ∷ fs) j = cond (ltb j (o + bytes f)) (o + (o + bytes f - 1 - j)) (other_end (o + bytes f) fs j)

-- "bytes 0 to 3 keep their place"
abbrev pub other : Layout → ℕ → ℕ
other l j = cond (ltb j 4) j (other_end 4 l.fields j)

-- byte j of record n, turned round
abbrev pub turned_byte : List ℕ → ℕ → ℕ → ℕ
turned_byte p n j = byte_of p n (other (layout_of (byte_of p n 0)) j)

-- "every W and D low byte first", or back
unfoldable pub turned : List ℕ → List ℕ
turned p = map (λ i. turned_byte p (i / 64) (i % 64)) (range_with_len 0 (length p))

-- the number of the k bytes of p from the offset o, low byte first
unfoldable pub low_first : ℕ → List ℕ → ℕ → ℕ
low_first zero p o = 0
low_first (suc k) p o = low_first k p (o + 1) * 256 + get_or p o 0
