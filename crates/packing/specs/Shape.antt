-- What the packing rules ask of a table's layout: how many bytes it uses, which bytes a presence bit governs, and the most that each byte may be. Assumes nothing.
use Rattle.std.specs.Prelude.{ℕ, ◌+◌, ◌*◌, Bool, false, not, ◌&&◌, ◌||◌, cond, List, [], ◌∷◌, map, eqb, ltb, leb, get_or}
use Rattle.std.specs.List.{range_with_len}
use Rattle.schema.specs.Layout.{Field, W, D, W-if, bytes, Layout, plain, layouts}
use Rattle.schema.specs.Bytes.{bit_of}
use Rattle.packing.specs.declared.shape.Shape.{Shape}

-- the layout of a table; past the last table no byte is used
abbrev pub layout_of : ℕ → Layout
layout_of t = get_or layouts t (plain [])

-- the end of the fields that start at byte o
abbrev pub end_from : ℕ → List Field → ℕ
end_from o [] = o
end_from o (f ∷ fs) = end_from (o + bytes f) fs

abbrev pub used : Layout → ℕ
used l = end_from 4 l.fields

abbrev pub governs : ℕ → Field → Bool
governs k W = false
governs k D = false
governs k (W-if j) = eqb j k

-- where the fields that bit k governs start, the fields from byte o on, and how many bytes they have; 0 and 0 where there is none
abbrev pub governed_offset : ℕ → ℕ → List Field → ℕ
governed_offset k o [] = 0
governed_offset k o (f ∷ fs) = cond (governs k f) o (governed_offset k (o + bytes f) fs)

abbrev pub governed_bytes : ℕ → List Field → ℕ
governed_bytes k [] = 0
governed_bytes k (f ∷ fs) = cond (governs k f) (bytes f) 0 + governed_bytes k fs

-- byte j belongs to a field that bit k governs, and byte 1 is b, where that bit is 0
abbrev pub absent_at : ℕ → Layout → ℕ → ℕ → Bool
absent_at k l b j =
    let o = governed_offset k 4 l.fields in
    not (bit_of b k) && (leb o j && ltb j (o + governed_bytes k l.fields))

-- byte j, from 4 on, is one of no field that is there
abbrev pub unused_at : Layout → ℕ → ℕ → Bool
unused_at l b j = leb (used l) j || (absent_at 0 l b j || absent_at 1 l b j)

-- the most that byte j of a record of layout l may be, where the lowest two bits of byte 1 are b
abbrev pub limit : Layout → ℕ → ℕ → ℕ
limit l b j = get_or (255 ∷ l.bits ∷ l.kinds ∷ 0 ∷ []) j (cond (unused_at l b j) 0 255)

-- that of every byte, word by word
unfoldable pub limits : Layout → ℕ → List (List ℕ)
limits l b = map (λ w. map (λ i. limit l b (w * 4 + i)) (range_with_len 0 4)) (range_with_len 0 16)

abbrev pub shape : Layout → Shape
shape l =
    record {
      used = used l;
      identities = l.identities;
      limits = map (limits l) (range_with_len 0 4);
    }

abbrev pub shape_of : ℕ → Shape
shape_of t = shape (layout_of t)
