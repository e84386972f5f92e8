-- Cases by a test, and laws of the test whether a number lies in a range. Assumes nothing.
use Prim.Native.Nat.{ℕ, ◌<◌, ◌≤◌}
use mathlib.Core.Bool.{Bool, true, false}
use mathlib.Core.Path.{◌≡◌, refl}
use lib.Dec.{ltb, leb}
use borrow.Author.Tests.{ltb-true, ltb-false, leb-true, le-leb, lt-leb, clash}
pub use Rattle.std.proofs.lemmas.Bool.{and_parts as both, or_parts as neither}
pub use Rattle.std.proofs.Math.Bool.{and-true, and-false, and_assoc, or-true}
use Rattle.identity.specs.Within.{within}

abbrev pub cases {ℓ} : {X : Type ℓ} (b : Bool) → (b ≡ true → X) → (b ≡ false → X) → X
cases true t f = t refl
cases false t f = f refl

pub below_or_not : {X : Type 0} (m n : ℕ) → (m < n → X) → (n ≤ m → X) → X
below_or_not m n f g = cases (ltb m n) (λ t. f (ltb-true m n t)) (λ e. g (ltb-false m n e))

-- a test that fails has nothing to show
pub failed : {X : Type 0} → false ≡ true → X
failed e = absurd (clash e)

pub within-true : (low high v : ℕ) → within low high v ≡ true → (low ≤ v) × (v ≤ high)
within-true low high v e =
    let h = both (leb low v) (leb v high) e in
    (leb-true low v h.0, leb-true v high h.1)

pub within_in : (low high v : ℕ) → low ≤ v → v ≤ high → within low high v ≡ true
within_in low high v l h = rw (le-leb low v l, le-leb v high h)

pub within-below : (low high v : ℕ) → v < low → within low high v ≡ false
within-below low high v h = rw (lt-leb low v h)

pub within-above : (low high v : ℕ) → high < v → within low high v ≡ false
within-above low high v h = rw (lt-leb v high h) (and-false (leb low v))
