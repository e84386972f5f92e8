-- Where a range or a span of `len` entries from `start` ends, and whether it holds a key (document 01, module 1). Assumes nothing.
use Rattle.std.specs.Prelude.{ℕ, ◌+◌, ◌-◌, ◌^◌, Bool, ◌&&◌, cond, ltb, leb, Option, Some, None, unwrap_or}

-- an end past 64 bits is no end
unfoldable pub checked_end : ℕ → ℕ → Option ℕ
checked_end start len = cond (ltb (start + len) (2 ^ 64)) (Some (start + len)) None

-- the end, or the largest 64-bit number where there is none
unfoldable pub saturating_end : ℕ → ℕ → ℕ
saturating_end start len = unwrap_or (checked_end start len) (2 ^ 64 - 1)

-- a key is at least the start and below the end
unfoldable pub contains : ℕ → ℕ → ℕ → Bool
contains start len key = leb start key && ltb key (saturating_end start len)
