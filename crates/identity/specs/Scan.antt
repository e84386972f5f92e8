-- Auxiliary: what the contracts of the private functions cite, and no public contract.
use Rattle.std.specs.Prelude.{ℕ, zero, suc, ◌+◌, ◌<◌, ◌≤◌, Bool, true, ◌&&◌, ◌||◌, cond, ◌≡◌, List, ltb, eqb, get_or, drop}
use Rattle.identity.specs.Within.{within}
use Rattle.identity.specs.Utf8.{before, decode, utf8}
use Rattle.identity.specs.Unicode.{control, white_space}
use Rattle.identity.specs.Identity.{valid_text}

-- ASCII without controls.
abbrev pub printable : ℕ → Bool
printable b = within 0x20 0x7E b

-- ASCII, a scalar by itself; a control only where `any` may stand.
abbrev pub ascii : Bool → ℕ → Bool
ascii any b = ltb b 0x80 && (any || printable b)

-- The k places from o pass the test.
unfoldable pub every : (ℕ → Bool) → ℕ → ℕ → Bool
every test o zero = true
every test o (suc k) = every test o k && test (o + k)

-- Tests of a place: the byte there is such ASCII, two texts have the same byte there.
abbrev pub ascii_at : Bool → List ℕ → ℕ → Bool
ascii_at any s i = ascii any (get_or s i 0)

abbrev pub same_at : List ℕ → List ℕ → ℕ → Bool
same_at a b i = eqb (get_or a i 0) (get_or b i 0)

-- The k places from o pass the test and are before the end.
pub record Run (test : ℕ → Bool) (o k end : ℕ) : Type 0 where
  pub inside : o + k ≤ end
  pub all : every test o k ≡ true

-- A step of w bytes from i, at least one: the rest from i is good exactly where the rest after them is.
pub record Stepped (good : ℕ → Bool) (end i w : ℕ) : Type 0 where
  pub inside : i + w ≤ end
  pub forward : 0 < w
  pub same : good i ≡ good (i + w)

-- The rest of s from i is UTF-8.
abbrev pub utf8_from : List ℕ → ℕ → Bool
utf8_from s i = utf8 (drop i s)

-- The rest of s from i may end an identity: with a letter before it, where it is not the whole, it is one.
abbrev pub id_from : List ℕ → ℕ → Bool
id_from s i = valid_text (cond (eqb i 0) (decode (drop i s)) (before 0x61 (decode (drop i s))))

-- The rest of s from i is such: UTF-8 where any scalar may stand, else what may end an identity.
abbrev pub rest_from : Bool → List ℕ → ℕ → Bool
rest_from any s i = cond any (utf8_from s i) (id_from s i)

-- A scalar that no identity has at that place: a control, or white space at an edge.
abbrev pub refused : ℕ → Bool → Bool
refused v edge = control v || (edge && white_space v)
