-- The bytes of a pack's records: record n is the 64 bytes from 64 n. Assumes nothing.
use Rattle.std.specs.Prelude.{ℕ, ◌+◌, ◌*◌, ◌/◌, ◌%◌, ◌^◌, ◌<◌, ◌≡◌, Bool, List, get_or, length, eqb}

-- a pack of whole records
abbrev pub Whole : List ℕ → Type 0
Whole p = length p % 64 ≡ 0

-- the bytes p have record n
abbrev pub IsRecord : List ℕ → ℕ → Type 0
IsRecord p n = n < length p / 64

-- byte j of record n
abbrev pub byte_of : List ℕ → ℕ → ℕ → ℕ
byte_of p n j = get_or p (n * 64 + j) 0

-- bit k of a byte, the lowest first
abbrev pub bit_of : ℕ → ℕ → Bool
bit_of b k = eqb (b / 2 ^ k % 2) 1
