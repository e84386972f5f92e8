-- A record without stray bytes, bits or kinds, whose absent fields are zero (refusal 4). Assumes nothing.
use Rattle.std.specs.Prelude.{ℕ, zero, suc, ◌+◌, ◌*◌, ◌-◌, Bool, true, not, ◌&&◌, ◌||◌, cond, List, ltb, leb, eqb, get_or}
use Rattle.schema.specs.Layout as layout
use Rattle.schema.specs.Layout.{Layout, offset}
use Rattle.schema.specs.Bytes.{byte_of, bit_of}
use Rattle.packing.specs.Shape.{layout_of, used, governed_offset, governed_bytes}

-- the k bytes of p from o are zero
unfoldable pub zeros : List ℕ → ℕ → ℕ → Bool
zeros p o zero = true
zeros p o (suc k) = zeros p o k && eqb (get_or p (o + k) 0) 0

-- bytes 1 to 3 of record n
abbrev pub head_clean : Layout → List ℕ → ℕ → Bool
head_clean l p n = leb (byte_of p n 1) l.bits && (leb (byte_of p n 2) l.kinds && eqb (byte_of p n 3) 0)

-- the bytes past the last field
abbrev pub tail_clean : Layout → List ℕ → ℕ → Bool
tail_clean l p n = zeros p (n * 64 + used l) (64 - used l)

-- the fields that bit k of byte 1 governs: zero where it is 0
abbrev pub absent_clean : ℕ → Layout → List ℕ → ℕ → Bool
absent_clean k l p n = bit_of (byte_of p n 1) k || zeros p (n * 64 + governed_offset k 4 l.fields) (governed_bytes k l.fields)

-- table 3, byte 2 = 2 timer, 3 shutdown: the period bit is for timers only; the D is zero for shutdown and for a timer without period
abbrev pub timing_clean : List ℕ → ℕ → Bool
timing_clean p n =
    (eqb (byte_of p n 2) 2 || not (bit_of (byte_of p n 1) 1))
    && (ltb (byte_of p n 2) 2 || (bit_of (byte_of p n 1) 1 || zeros p (n * 64 + offset layout.actions 3) 8))

-- table 5: byte 2 is zero without mode effect
abbrev pub effect_clean : List ℕ → ℕ → Bool
effect_clean p n = bit_of (byte_of p n 1) 1 || eqb (byte_of p n 2) 0

-- bytes 1 to 3 of record n and the fields that bits govern are as layout l has them
abbrev pub fields_clean : Layout → List ℕ → ℕ → Bool
fields_clean l p n = head_clean l p n && (absent_clean 0 l p n && absent_clean 1 l p n)

-- what document 01 says of tables 3 and 5 beside their fields
abbrev pub kind_clean : ℕ → List ℕ → ℕ → Bool
kind_clean t p n = cond (eqb t 3) (timing_clean p n) (cond (eqb t 5) (effect_clean p n) true)

abbrev pub clean_by : Layout → List ℕ → ℕ → Bool
clean_by l p n = head_clean l p n && (tail_clean l p n && (absent_clean 0 l p n && absent_clean 1 l p n))

unfoldable pub clean : List ℕ → ℕ → Bool
clean p n = clean_by (layout_of (byte_of p n 0)) p n && kind_clean (byte_of p n 0) p n
