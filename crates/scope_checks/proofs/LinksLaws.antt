-- Parent links: how many there can be, how a walk follows them, and the sum over the scopes. Assumes nothing.
use Rattle.std.proofs.Common.{ℕ, zero, suc, ◌+◌, ◌-◌, ◌*◌, ◌^◌, ◌<◌, ◌≤◌, ◌≡◌, min, refl, arith, add-one}
use Rattle.std.proofs.Math.Nat.{suc-mul, mul-le-mul}
use Rattle.schema.specs.Indexes.{ScopeIndex}
use Rattle.std.specs.Prelude.{Option, Some, None, Err}
use Rattle.answers.specs.declared.Refusal.TheVariants.{ScopeParentCycle}
use Rattle.answers.specs.Checks.{first, passed}
use Rattle.checks.specs.Image.{Image}
use Rattle.scope_checks.specs.Links.{followed, links_of, links_below, parents, cycle_checks}
use borrow.Author.Tests.{lt-ltb, le-ltb}

-- at most k links are followed
pub followed-within : (parent : ℕ → Option ScopeIndex) (k : ℕ) (r : Option ScopeIndex) → followed parent k r ≤ k
unfolding followed
followed-within parent zero r = omega arith
followed-within parent (suc k) None = omega arith
followed-within parent (suc k) (Some s) = let h = followed-within parent k (parent s.0) in omega arith

-- the links of the first k of n scopes are at most k * n
pub below-within : (parent : ℕ → Option ScopeIndex) (n k : ℕ) → links_below parent n k ≤ k * n
unfolding links_below
below-within parent n zero = omega arith
below-within parent n (suc k) =
    let a = below-within parent n k in
    let b = followed-within parent n (parent k) in
    rw suc-mul (omega arith)

module _ (parent : ℕ → Option ScopeIndex) where
  -- no parent, no link more
  pub followed_none : (k : ℕ) (r : Option ScopeIndex) → r ≡ None → followed parent k r ≡ 0
  unfolding followed
  followed_none zero r e = refl
  followed_none (suc k) r e = rw e refl

  -- after k of n links, the link to a parent and those from there on
  pub followed_next : (n k : ℕ) (s : ScopeIndex) → k < n → followed parent (n - k) (Some s) ≡ followed parent (n - (k + 1)) (parent s.0) + 1
  unfolding followed
  followed_next n k s h = let m : n - k ≡ suc (n - (k + 1)) = omega arith in rw m (omega arith)

  -- with k of n links behind, those that are left are followed up to n - k of them
  followed_least : (k n : ℕ) (r : Option ScopeIndex) → k ≤ n → followed parent k r ≡ min k (followed parent n r)
  unfolding followed
  followed_least zero n r h = omega arith
  followed_least (suc k) zero r h = omega arith
  followed_least (suc k) (suc n) None h = omega arith
  followed_least (suc k) (suc n) (Some s) h =
      let e = followed_least k n (parent s.0) (omega arith) in omega arith

  pub followed_cut : (n k : ℕ) (r : Option ScopeIndex) → followed parent (n - k) r ≡ min (n - k) (followed parent n r)
  followed_cut n k r = followed_least (n - k) n r (omega arith)

  -- fewer links than n from a scope: its parent has one less
  pub followed_above : (n : ℕ) (s : ScopeIndex) → followed parent n (Some s) < n → followed parent n (Some s) ≡ followed parent n (parent s.0) + 1
  unfolding followed
  followed_above zero s h = absurd (omega arith)
  followed_above (suc n) s h =
      let e = followed_least n (suc n) (parent s.0) (omega arith) in omega arith

  -- fewer links than n from scope i, which has a parent: the parent has one less
  pub parent_links : (n i : ℕ) (s : ScopeIndex) → links_of parent n i < n → parent i ≡ Some s → links_of parent n i ≡ links_of parent n s.0 + 1
  parent_links n i s l e = let u = rw e at l in rw e (followed_above n s u)

pub ruleset followed_laws = (followed_none, followed_next, followed_cut, followed_above)

-- the links of one scope more
pub below_next : (parent : ℕ → Option ScopeIndex) (n k : ℕ) → links_below parent n (k + 1) ≡ links_below parent n k + links_of parent n k
unfolding links_below
below_next parent n k = rw add-one refl

-- with fewer than 2 ^ 32 scopes the sum with one scope more fits 64 bits
pub sum_fits : (parent : ℕ → Option ScopeIndex) (n k : ℕ) → k < n → n < 2 ^ 32 → links_below parent n k + links_of parent n k < 2 ^ 64
sum_fits parent n k h b =
    let x = below-within parent n k in
    let y = followed-within parent n (parent k) in
    let z : suc k * n ≤ (2 ^ 32 - 1) * (2 ^ 32 - 1) = mul-le-mul {n₂ = 2 ^ 32 - 1} {m₂ = 2 ^ 32 - 1} (omega arith) (omega arith) in
    let w = rw suc-mul at z in
    omega arith

-- the check of a scope, by its links
pub links_end : (m : Image) (i : ℕ) → links_of (parents m) (m.rows 7) i < m.rows 7 → first (cycle_checks m i) ≡ passed
unfolding first cycle_checks
links_end m i h = rw (lt-ltb _ _ h) refl

pub links_circle : (m : Image) (i : ℕ) → m.rows 7 ≤ links_of (parents m) (m.rows 7) i → first (cycle_checks m i) ≡ Err (ScopeParentCycle i)
unfolding first cycle_checks
links_circle m i h = rw (le-ltb _ _ h) refl

pub ruleset below_laws = (below_next, sum_fits, links_end, links_circle)
