-- Cases by a test. Assumes nothing.
use Rattle.std.proofs.Common.{ℕ, ◌≡◌, Bool, true, false, not, ◌||◌, eqb, refl, true≢false, sym}
use borrow.Author.Tests.{eqb-true, eqb-false}
use Rattle.identity.proofs.Tests.{cases}

pub same_or {ℓ} : {X : Type ℓ} (a b : ℕ) → (a ≡ b → X) → ((a ≡ b → ⊥) → X) → X
same_or a b e n = cases (eqb a b) (λ t. e (eqb-true a b t)) (λ f. n (eqb-false a b f))

pub or_true {ℓ} : {X : Type ℓ} (x y : Bool) → (x || y) ≡ true → (x ≡ true → X) → (y ≡ true → X) → X
or_true true y h a b = a refl
or_true false y h a b = b h

pub not_true : (x : Bool) → not x ≡ true → x ≡ false
not_true true h = absurd (true≢false (sym h))
not_true false h = refl

pub not_false : (x : Bool) → not x ≡ false → x ≡ true
not_false true h = refl
not_false false h = absurd (true≢false h)
