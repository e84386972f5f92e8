-- The legal tables from a number on: one step of their list, and what holds of all that stand in it. Assumes nothing.
use Prim.Native.Nat.{ℕ, zero, suc, ◌+◌, ◌-◌, ◌<◌, ◌≤◌}
use mathlib.Core.Bool.{Bool, true, false, cond}
use mathlib.Core.Path.{◌≡◌, refl}
use mathlib.Core.List.{List, [], ◌∷◌}
use native.Mathlib.Numerals.{add-one}
use native.Mathlib.Omega.{arith}
use Rattle.std.specs.Prelude.{Some, None, filter, Contains, All, AllPairs}
use Rattle.identity.proofs.Tests.{below_or_not}
use Rattle.trees.specs.Trees.{legal, table_of, total, tables, legal_from, first_from}

one_less : (m v : ℕ) → v < m → m - v ≡ suc (m - suc v)
one_less m v h = omega arith

none_left : (m v : ℕ) → m ≤ v → m - v ≡ 0
none_left m v h = omega arith

module _ (n v : ℕ) where
  pub step_legal : v < total n → legal n (table_of n v) ≡ true → legal_from n v ≡ table_of n v ∷ legal_from n (suc v)
  unfolding legal_from tables
  step_legal h e = rw (one_less (total n) v h, e) refl

  pub step_other : v < total n → legal n (table_of n v) ≡ false → legal_from n v ≡ legal_from n (suc v)
  unfolding legal_from tables
  step_other h e = rw (one_less (total n) v h, e) refl

  pub step_none : total n ≤ v → legal_from n v ≡ []
  unfolding legal_from tables
  step_none h = rw (none_left (total n) v h) refl

  -- the first of them
  pub first_here : v < total n → legal n (table_of n v) ≡ true → Some (table_of n v) ≡ first_from n v
  first_here h e = rw (step_legal h e) refl

  pub first_later : v < total n → legal n (table_of n v) ≡ false → first_from n (v + 1) ≡ first_from n v
  first_later h e = rw (add-one, step_other h e) refl

  pub first_none : total n ≤ v → None ≡ first_from n v
  first_none h = rw (step_none h) refl

pub ruleset first_laws = (first_here, first_later, first_none)

contains_more : (b : Bool) (x : List ℕ) (xs : List (List ℕ)) (t : List ℕ) → Contains xs t → Contains (cond b (x ∷ xs) xs) t
contains_more true x xs t c = (suc c.0, omega (arith, c.1), c.2)
contains_more false x xs t c = c

all_more : (P : List ℕ → Type 0) (b : Bool) (x : List ℕ) (xs : List (List ℕ)) → (b ≡ true → P x) → All P xs → All P (cond b (x ∷ xs) xs)
all_more P true x xs p a zero d l = p refl
all_more P true x xs p a (suc i) d l = a i d (omega arith)
all_more P false x xs p a i d l = a i d l

pairs_more :
    (R : List ℕ → List ℕ → Type 0) (b : Bool) (x : List ℕ) (xs : List (List ℕ)) → All (λ u. R x u) xs → AllPairs R xs
    → AllPairs R (cond b (x ∷ xs) xs)
pairs_more R true x xs a p i zero d l m = absurd (omega arith)
pairs_more R true x xs a p zero (suc j) d l m = a j d (omega arith)
pairs_more R true x xs a p (suc i) (suc j) d l m = p i j d (omega arith) (omega arith)
pairs_more R false x xs a p i j d l m = p i j d l m

module _ (n : ℕ) where
  -- the legal ones of k tables
  abbrev among : ℕ → ℕ → List (List ℕ)
  among v k = filter (legal n) (tables n v k)

  pub contained : (v k w : ℕ) → v ≤ w → w < v + k → legal n (table_of n w) ≡ true → Contains (filter (legal n) (tables n v k)) (table_of n w)
  unfolding tables
  contained v zero w l h e = absurd (omega arith)
  contained v (suc k) w l h e =
      below_or_not v w
      (λ g. contains_more (legal n (table_of n v)) (table_of n v) (among (suc v) k) (table_of n w) (contained (suc v) k w (omega arith) (omega arith) e))
      (λ g. let z : v ≡ w = omega arith in rw (z, e) (0, omega arith, refl))

  pub elements :
      (P : List ℕ → Type 0) (v k : ℕ) → ((w : ℕ) → v ≤ w → w < v + k → legal n (table_of n w) ≡ true → P (table_of n w))
      → All P (filter (legal n) (tables n v k))
  unfolding tables
  elements P v zero h = λ i d l. absurd (omega arith)
  elements P v (suc k) h =
      all_more P (legal n (table_of n v)) (table_of n v) (among (suc v) k) (λ e. h v (omega arith) (omega arith) e)
      (elements P (suc v) k (λ w l m e. h w (omega arith) (omega arith) e))

  pub pairs :
      (R : List ℕ → List ℕ → Type 0) (v k : ℕ) → ((u w : ℕ) → v ≤ u → u < w → w < v + k → R (table_of n u) (table_of n w))
      → AllPairs R (filter (legal n) (tables n v k))
  unfolding tables
  pairs R v zero h = λ i j d l m. absurd (omega arith)
  pairs R v (suc k) h =
      pairs_more R (legal n (table_of n v)) (table_of n v) (among (suc v) k)
      (elements (λ u. R (table_of n v) u) (suc v) k (λ w l m e. h v w (omega arith) (omega arith) (omega arith)))
      (pairs R (suc v) k (λ u w l m o. h u w (omega arith) m (omega arith)))
