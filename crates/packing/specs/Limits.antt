-- Bytes that are each at most a limit. Assumes nothing.
use Rattle.std.specs.Prelude.{ℕ, zero, suc, ◌+◌, Bool, true, ◌&&◌, ◌||◌, List, leb, get_or}

-- a byte is at most its limit; 255 limits none
abbrev pub at_most : ℕ → ℕ → Bool
at_most m b = leb 255 m || leb b m

-- the k bytes of p from o are at most the first k limits of ms
unfoldable pub within : List ℕ → ℕ → List ℕ → ℕ → Bool
within p o ms zero = true
within p o ms (suc k) = within p o ms k && at_most (get_or ms k 0) (get_or p (o + k) 0)
