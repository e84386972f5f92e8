-- Two sets of code points of the Unicode Character Database, version 17.0.0, as ranges.
use Rattle.std.specs.Prelude.{ℕ, Bool, false, ◌||◌, List, [], ◌∷◌}
use Rattle.identity.specs.Within.{within}

-- The first and the last code point of each range.
abbrev pub in_ranges : List (ℕ × ℕ) → ℕ → Bool
in_ranges [] v = false
in_ranges ((low, high) ∷ ranges) v = within low high v || in_ranges ranges v

-- General_Category Cc (control): 65 code points.
abbrev pub controls : List (ℕ × ℕ)
controls = (0x0000, 0x001F) ∷ (0x007F, 0x009F) ∷ []

-- White_Space: 25 code points.
abbrev pub white_spaces : List (ℕ × ℕ)
white_spaces =
    (0x0009, 0x000D)
    ∷ (0x0020, 0x0020)
    ∷ (0x0085, 0x0085)
    ∷ (0x00A0, 0x00A0)
    ∷ (0x1680, 0x1680)
    ∷ (0x2000, 0x200A)
    ∷ (0x2028, 0x2029)
    ∷ (0x202F, 0x202F)
    ∷ (0x205F, 0x205F)
    ∷ (0x3000, 0x3000)
    ∷ []

unfoldable pub control : ℕ → Bool
control v = in_ranges controls v

unfoldable pub white_space : ℕ → Bool
white_space v = in_ranges white_spaces v
