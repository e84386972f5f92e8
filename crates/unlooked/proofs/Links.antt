-- The parents of scopes: where each parent is a scope, only scopes' parents are looked at. Assumes nothing.
use Prim.Native.Nat.{ℕ, zero, suc, ◌<◌, ◌≤◌}
use mathlib.Core.Path.{◌≡◌, refl}
use native.Mathlib.Omega.{arith}
use Rattle.std.specs.Prelude.{Option, Some, None}
use Rattle.schema.specs.Indexes.{ScopeIndex}
use Rattle.scope_checks.specs.Links.{followed, links_of, links_below}

-- the scope that r names, if it names one, is one of n
abbrev pub Known : ℕ → Option ScopeIndex → Type 0
Known n r = (v : ScopeIndex) → r ≡ Some v → v.0 < n

module _ (f g : ℕ → Option ScopeIndex) (n : ℕ) (same : (i : ℕ) → i < n → g i ≡ f i) (known : (i : ℕ) → i < n → Known n (f i)) where
  followed_same : (k : ℕ) (r : Option ScopeIndex) → Known n r → followed g k r ≡ followed f k r
  unfolding followed
  followed_same zero r h = refl
  followed_same (suc k) None h = refl
  followed_same (suc k) (Some v) h = let l = h v refl in rw (same v.0 l, followed_same k (f v.0) (known v.0 l)) refl

  pub links_same : (i : ℕ) → i < n → links_of g n i ≡ links_of f n i
  links_same i l = rw (same i l) (followed_same n (f i) (known i l))

  pub sum_same : (k : ℕ) → k ≤ n → links_below g n k ≡ links_below f n k
  unfolding links_below
  sum_same zero l = refl
  sum_same (suc k) l = rw (sum_same k (omega arith), links_same k (omega arith)) refl
