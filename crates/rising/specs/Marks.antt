-- The marks of reactions in lent bytes: a byte for each reaction (document 02, Wish 4), or a bit (Wish 11). Assumes nothing.
use Rattle.std.specs.Prelude.{ℕ, ◌+◌, ◌*◌, ◌/◌, ◌%◌, ◌^◌, Bool, not, ◌&&◌, List, ◌++◌, get_or, drop, map, ltb, eqb, bit_or}
use lib.ListN.{set}
use Rattle.std.specs.List.{range_with_len}
use Rattle.std.specs.Int.{bit_at}
use Rattle.answers.specs.Numbers.{bit}
use Rattle.accepted.specs.Totals.{total}
use Rattle.rising.specs.declared.marks.Marks.{Marks}
use Rattle.rising.specs.declared.marks.Marks.TheVariants.{Bytes, Bits}

-- how many bytes the marks of n reactions need
abbrev pub room : Marks → ℕ → ℕ
room Bytes n = n
room Bits n = (n + 7) / 8

-- byte i of the marks of n reactions, where f tells which are marked: 1 or 0; or eight bits from the lowest, of which that of place j
-- is for reaction 8 i + j, and 0 past the last
abbrev pub byte_of_marks : Marks → (ℕ → Bool) → ℕ → ℕ → ℕ
byte_of_marks Bytes f n i = bit (f i)
byte_of_marks Bits f n i = total (λ j. bit (ltb (i * 8 + j) n && f (i * 8 + j)) * 2 ^ j) 8

-- the bytes with those marks in the first of them; the bytes beyond stay
unfoldable pub marked : Marks → (ℕ → Bool) → ℕ → List ℕ → List ℕ
marked k f n xs = map (byte_of_marks k f n) (range_with_len 0 (room k n)) ++ drop (room k n) xs

-- the mark of reaction i: 1 where it is marked, else 0
abbrev pub mark_of : Marks → List ℕ → ℕ → ℕ
mark_of Bytes xs i = get_or xs i 0
mark_of Bits xs i = bit_at (get_or xs (i / 8) 0) (i % 8)

abbrev pub is_marked : Marks → List ℕ → ℕ → Bool
is_marked k xs i = not (eqb (mark_of k xs i) 0)

-- the bytes after the mark of reaction i was made
abbrev pub set_mark : Marks → List ℕ → ℕ → List ℕ
set_mark Bytes xs i = set xs i 1
set_mark Bits xs i = set xs (i / 8) (bit_or (get_or xs (i / 8) 0) (2 ^ (i % 8)))
