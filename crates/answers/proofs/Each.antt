-- What holds of the refusal of each check of a list, and so of the one that the list answers; which part of a list that one is of. Assumes nothing.
use Prim.Native.Nat.{ℕ, zero, suc, ◌+◌, ◌<◌, ◌≤◌}
use mathlib.Core.Bool.{Bool, true, false, cond}
use mathlib.Core.Path.{◌≡◌}
use mathlib.Core.List.{List, [], ◌∷◌, ◌++◌}
use native.Mathlib.Omega.{arith}
use Rattle.std.specs.Prelude.{Err}
use Rattle.answers.specs.declared.Refusal.{Refusal}
use Rattle.answers.specs.Checks.{Check, need, first, run, Outcome}

-- each refusal of the list has P
pub data Each (P : Refusal → Type 0) : List Check → Type 0 where
  none : Each P []
  more : {b : Bool} {r : Refusal} {cs : List Check} → P r → Each P cs → Each P (need b r ∷ cs)

refusal_of : {r s : Refusal} → ◌≡◌ {A = Outcome} (Err r) (Err s) → r ≡ s
refusal_of e = cc

module _ {P : Refusal → Type 0} where
  pub each-append : {xs ys : List Check} → Each P xs → Each P ys → Each P (xs ++ ys)
  each-append none k = k
  each-append (more e h) k = more e (each-append h k)

  pub each-run : {f : ℕ → List Check} → ((i : ℕ) → Each P (f i)) → (i n : ℕ) → Each P (run f i n)
  unfolding run
  each-run h i zero = none
  each-run h i (suc n) = each-append (h i) (each-run h (suc i) n)

  pub each-cond : (b : Bool) {cs : List Check} → Each P cs → Each P (cond b [] cs)
  each-cond true h = none
  each-cond false h = h

  -- the refusal that the list answers is one of them
  pub each-first : {cs : List Check} {r : Refusal} → Each P cs → first cs ≡ Err r → P r
  unfolding first
  each-first none e = let z : ◌≡◌ {A = ℕ} 0 1 = cc in absurd (omega arith)
  each-first (more {b = true} p h) e = each-first h e
  each-first (more {b = false} p h) e = rw (refusal_of e) at p

pub ruleset each_laws = (none, more, each-append, each-run, each-cond)

-- a refusal of two lists one after the other is one of theirs; that of a run is one of its lists'
pub refused_append :
    {X : Type 0} (xs ys : List Check) {r : Refusal}
    → (first xs ≡ Err r → X) → (first ys ≡ Err r → X) → first (xs ++ ys) ≡ Err r → X
unfolding first
refused_append [] ys a b e = b e
refused_append (need true r ∷ xs) ys a b e = refused_append xs ys a b e
refused_append (need false r ∷ xs) ys a b e = a e

pub refused_run :
    {X : Type 0} (f : ℕ → List Check) (i n : ℕ) {r : Refusal}
    → ((k : ℕ) → i ≤ k → k < i + n → first (f k) ≡ Err r → X) → first (run f i n) ≡ Err r → X
unfolding run first
refused_run f i zero h e = let z : ◌≡◌ {A = ℕ} 0 1 = cc in absurd (omega arith)
refused_run f i (suc n) h e =
    refused_append (f i) (run f (suc i) n) (h i (omega arith) (omega arith)) (refused_run f (suc i) n (λ k l u. h k (omega arith) (omega arith))) e
