-- Auxiliary: which bytes fit the three before them. Where all do, whole scalars stand, and no controls unless `any` lets them by.
use Rattle.std.specs.Prelude.{ℕ, ◌-◌, Bool, not, ◌&&◌, ◌||◌, List, ltb, leb, eqb, get_or}
use Rattle.identity.specs.Within.{within}
use Rattle.identity.specs.Utf8.{follows}
use Rattle.identity.specs.Scan.{ascii}

-- A following byte is due after p, q and r, the nearest of them first.
abbrev pub due : ℕ → ℕ → ℕ → Bool
due p q r = leb 0xC0 p || (leb 0xE0 q || leb 0xF0 r)

-- b stands after the first byte a and is lower than `low`; p is the byte before b.
abbrev pub low_after : ℕ → ℕ → ℕ → ℕ → Bool
low_after a low p b = eqb p a && ltb b low

-- b stands after the first byte a and is not lower than `high`.
abbrev pub high_after : ℕ → ℕ → ℕ → ℕ → Bool
high_after a high p b = eqb p a && leb high b

-- Some scalar has b after p: A0 is the least after E0, 90 after F0; 9F is the last after ED, 8F after F4; after C2 the bytes below A0 are controls.
abbrev pub second : Bool → ℕ → ℕ → Bool
second any b p =
    follows b
    && ((any || not (low_after 0xC2 0xA0 p b))
    && ((not (low_after 0xE0 0xA0 p b) && not (low_after 0xF0 0x90 p b))
    && (not (high_after 0xED 0xA0 p b) && not (high_after 0xF4 0x90 p b))))

-- Some scalar starts with b.
abbrev pub starts : Bool → ℕ → Bool
starts any b = ascii any b || within 0xC2 0xF4 b

abbrev pub fits : Bool → ℕ → ℕ → ℕ → ℕ → Bool
fits any b p q r = (due p q r && second any b p) || (not (due p q r) && starts any b)

-- Tests of a place from the third on: its byte fits the three before it; no following byte is due there.
abbrev pub fits_at : Bool → List ℕ → ℕ → Bool
fits_at any s i = fits any (get_or s i 0) (get_or s (i - 1) 0) (get_or s (i - 2) 0) (get_or s (i - 3) 0)

abbrev pub quiet_at : List ℕ → ℕ → Bool
quiet_at s i = not (due (get_or s (i - 1) 0) (get_or s (i - 2) 0) (get_or s (i - 3) 0))
