-- The numbers of a pack: k bytes from an offset, high byte first. A byte past the end counts as 0. Assumes nothing.
use Rattle.std.specs.Prelude.{ℕ, zero, suc, ◌+◌, ◌*◌, ◌/◌, ◌%◌, ◌^◌, ◌<◌, ◌≡◌, List, get_or}

-- the number of the k bytes of p from the offset o: W is 4 bytes, D is 8
unfoldable pub number : ℕ → List ℕ → ℕ → ℕ
number zero p o = 0
number (suc k) p o = number k p o * 256 + get_or p (o + k) 0

-- r is the number of those k bytes, and so below 256 to the k
pub record Number (k : ℕ) (p : List ℕ) (o r : ℕ) : Type 0 where
  pub value : r ≡ number k p o
  pub bound : r < 256 ^ k

-- r has the W at o and the W after it as its halves
pub record Words (p : List ℕ) (o r : ℕ) : Type 0 where
  pub first : r / 4294967296 ≡ number 4 p o
  pub second : r % 4294967296 ≡ number 4 p (o + 4)
