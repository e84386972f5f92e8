-- What reading every row gives, where no row has what is looked for, and where one has it. Assumes nothing.
use Prim.Native.Nat.{ℕ, zero, suc, ◌+◌, ◌<◌}
use mathlib.Core.Bool.{Bool, true, false}
use mathlib.Core.Path.{◌≡◌, refl, ◌∙◌, sym}
use mathlib.Core.List.{[], ◌∷◌}
use native.Mathlib.Omega.{arith}
use Rattle.identity.proofs.Tests.{cases, below_or_not, failed}
use Rattle.mode_owner.specs.Owner.{holders, NoHolder, FirstHolder}

module _ (f : ℕ → Bool) where
  pub holders-none : (n : ℕ) → NoHolder f n → holders f n ≡ []
  unfolding holders
  holders-none zero h = refl
  holders-none (suc n) h = rw (holders-none n (λ i l. h i (omega arith)), h n (omega arith)) refl

  -- where row r alone has it
  pub holders-one : (n r : ℕ) → r < n → f r ≡ true → ((i : ℕ) → i < n → f i ≡ true → i ≡ r) → holders f n ≡ r ∷ []
  unfolding holders
  holders-one zero r l e h = absurd (omega arith)
  holders-one (suc n) r l e h =
      cases (f n)
      (λ t. let s = h n (omega arith) t in
      let none : NoHolder f n = λ i b. cases (f i) (λ u. let q = h i (omega arith) u in absurd (omega arith)) (λ u. u) in
      rw (holders-none n none, t, s) refl)
      (λ u. let b : r < n = below_or_not r n (λ m. m) (λ g. let z : r ≡ n = omega arith in failed (sym u ∙ (rw z at e))) in
      rw (holders-one n r b e (λ i m. h i (omega arith)), u) refl)
