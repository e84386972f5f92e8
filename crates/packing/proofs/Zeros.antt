-- Bytes that are zero, by their number and by parts. Assumes nothing.
use Prim.Native.Nat.{ℕ, zero, suc, ◌+◌, ◌*◌}
use mathlib.Core.Bool.{◌&&◌}
use mathlib.Core.Path.{◌≡◌, refl, ◌∙◌, sym}
use mathlib.Core.List.{List}
use native.Mathlib.Omega.{arith}
use lib.Dec.{eqb}
use lib.ListN.{get_or}
use borrow.Author.Tests.{ne_eqb}
use Rattle.schema.specs.Number.{number}
use Rattle.packing.specs.Clean.{zeros}

last_byte : (x b : ℕ) → (eqb x 0 && eqb b 0) ≡ eqb (x * 256 + b) 0
last_byte zero zero = refl
last_byte zero (suc b) = ne_eqb (suc b) 0 (λ e. omega arith) ∙ sym (ne_eqb (0 * 256 + suc b) 0 (λ e. omega arith))
last_byte (suc x) b = rw (ne_eqb (suc x) 0 (λ e. omega arith)) (sym (ne_eqb (suc x * 256 + b) 0 (λ e. omega arith)))

-- bytes are zero where their number is 0
pub zeros_number : (p : List ℕ) (o k : ℕ) → zeros p o k ≡ eqb (number k p o) 0
unfolding zeros number
zeros_number p o zero = refl
zeros_number p o (suc k) = rw (zeros_number p o k) (last_byte (number k p o) (get_or p (o + k) 0))

pub ruleset zeros_laws = (zeros_number)
