-- Whether a number lies in a range.
use Rattle.std.specs.Prelude.{ℕ, Bool, ◌&&◌, leb}

-- From low to high, both included.
abbrev pub within : ℕ → ℕ → ℕ → Bool
within low high v = leb low v && leb v high
