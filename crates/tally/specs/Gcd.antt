-- The greatest common divisor, by Euclid's remainders. Assumes nothing.
use Rattle.std.specs.Prelude.{ℕ, zero, suc, ◌%◌}

-- at most n remainders are taken
unfoldable pub remainders : ℕ → ℕ → ℕ → ℕ
remainders zero a b = a
remainders (suc n) a zero = a
remainders (suc n) a (suc b) = remainders n (suc b) (a % suc b)

-- each remainder is smaller than the number before, so that b of them are enough
unfoldable pub gcd : ℕ → ℕ → ℕ
gcd a b = remainders b a b
