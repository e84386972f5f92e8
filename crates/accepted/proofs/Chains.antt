-- A chain of parents has its links and ends, so it never comes back. Assumes nothing.
use Prim.Native.Nat.{ℕ, zero, suc, ◌+◌, ◌<◌, ◌≤◌}
use mathlib.Core.Path.{◌≡◌, refl, sym, ap, ◌∙◌}
use native.Mathlib.Omega.{arith}
use Rattle.std.specs.Prelude.{Option, Some, None}
use Rattle.identity.proofs.Tests.{below_or_not}
use Rattle.answers.proofs.Passed.{below}
use Rattle.schema.specs.Indexes.{ScopeIndex}
use Rattle.checks.specs.Image.{Image}
use Rattle.scope_checks.specs.Links.{followed, links_of, links_below, parents, cycle_checks, links}
use Rattle.scope_checks.proofs.LinksLaws.{followed_none, parent_links}
use Rattle.enclave.proofs.Accepted.{EachPasses}
use Rattle.accepted.specs.Totals.{total}
use Rattle.accepted.specs.Chains.{above, ancestor, NoReturn, ChainsEnd, ChainsInside, LinksBounded}
use Rattle.accepted.proofs.Depths.{depths_bounded}
use Rattle.accepted.proofs.Rows.{scope_holds}

module _ (parent : ℕ → Option ScopeIndex) where
  module _ (n i : ℕ) (few : links_of parent n i < n) where
    one_up :
        (k : ℕ) (s : ScopeIndex) (r : Option ScopeIndex) → ((q : ScopeIndex) → r ≡ Some q → links_of parent n i ≡ k + links_of parent n q.0)
        → above parent r ≡ Some s → links_of parent n i ≡ suc k + links_of parent n s.0
    one_up k s None h e = let z : ◌≡◌ {A = ℕ} 0 1 = cc in absurd (omega arith)
    one_up k s (Some q) h e =
        let a = h q refl in
        let b = parent_links parent n q.0 s (omega arith) e in
        omega arith

    -- k links up, there are k links less
    ancestor_links : (k : ℕ) (s : ScopeIndex) → ancestor parent k i ≡ Some s → links_of parent n i ≡ k + links_of parent n s.0
    unfolding ancestor
    ancestor_links zero s e = let x : s ≡ record { 0 = i } = cc in rw x (omega arith)
    ancestor_links (suc k) s e = one_up k s (ancestor parent k i) (ancestor_links k) e

    no_return : (j k : ℕ) (s : ScopeIndex) → j < k → ancestor parent j i ≡ Some s → ancestor parent k i ≡ Some s → ⊥
    no_return j k s u e f =
        let a = ancestor_links j s e in
        let b = ancestor_links k s f in
        omega arith

  -- where k links lead from a reference
  climb : ℕ → Option ScopeIndex → Option ScopeIndex
  climb zero r = r
  climb (suc k) r = above parent (climb k r)

  climb_first : (k : ℕ) (s : ScopeIndex) → climb (suc k) (Some s) ≡ climb k (parent s.0)
  unfolding climb
  climb_first zero s = refl
  climb_first (suc k) s = ap (above parent) (climb_first k s)

  -- a chain that ends before n links have been followed ends at none, and not before
  climb_ends : (n : ℕ) (r : Option ScopeIndex) → followed parent n r < n → climb (followed parent n r) r ≡ None
  unfolding followed climb
  climb_ends zero r l = absurd (omega arith)
  climb_ends (suc n) None l = refl
  climb_ends (suc n) (Some s) l = climb_first (followed parent n (parent s.0)) s ∙ climb_ends n (parent s.0) (omega arith)

  climb_on : (n k : ℕ) (r : Option ScopeIndex) → climb k r ≡ None → followed parent n r ≤ k
  unfolding followed climb
  climb_on zero k r e = omega arith
  climb_on (suc n) k None e = omega arith
  climb_on (suc n) zero (Some s) e = let z : ◌≡◌ {A = ℕ} 0 1 = cc in absurd (omega arith)
  climb_on (suc n) (suc k) (Some s) e = let a = climb_on n k (parent s.0) (sym (climb_first k s) ∙ e) in omega arith

  ancestor_climb : (k i : ℕ) → ancestor parent (suc k) i ≡ climb k (parent i)
  unfolding ancestor climb
  ancestor_climb zero i = refl
  ancestor_climb (suc k) i = ap (above parent) (ancestor_climb k i)

  pub chain_ends : (n i : ℕ) → links_of parent n i < n → ancestor parent (suc (links_of parent n i)) i ≡ None
  chain_ends n i l = ancestor_climb (links_of parent n i) i ∙ climb_ends n (parent i) l

  pub not_before : (n i k : ℕ) → ancestor parent k i ≡ None → links_of parent n i < k
  unfolding ancestor
  not_before n i zero e = let z : ◌≡◌ {A = ℕ} 0 1 = cc in absurd (omega arith)
  not_before n i (suc k) e = let a = climb_on n k (parent i) (sym (ancestor_climb k i) ∙ e) in omega arith

  -- where k links lead to none, so do more
  pub none_stays : (i k n : ℕ) → k ≤ n → ancestor parent k i ≡ None → ancestor parent n i ≡ None
  unfolding ancestor
  none_stays i k zero l e = let z : k ≡ 0 = omega arith in rw z at e
  none_stays i k (suc n) l e =
      below_or_not n k (λ m. let z : k ≡ suc n = omega arith in rw z at e) (λ m. rw (none_stays i k n m e) refl)

-- the links are a sum
links_total : (parent : ℕ → Option ScopeIndex) (n k : ℕ) → links_below parent n k ≡ total (links_of parent n) k
unfolding links_below total
links_total parent n zero = refl
links_total parent n (suc k) = rw (links_total parent n k) refl

module _ (m : Image) (h : EachPasses m) where
  links_few : (i : ℕ) → i < m.rows 7 → links_of (parents m) (m.rows 7) i < m.rows 7
  unfolding cycle_checks
  links_few i l = below (h.cycle i l)

  pub never_returns : NoReturn m
  never_returns i j k s l = no_return (parents m) (m.rows 7) i (links_few i l) j k s

  pub chains_end : ChainsEnd m
  chains_end i l =
      let u = links_few i l in
      (omega arith, chain_ends (parents m) (m.rows 7) i u, not_before (parents m) (m.rows 7) i)

  pub chains_inside : ChainsInside m
  unfolding ancestor
  chains_inside i zero s l e = let x : s ≡ record { 0 = i } = cc in rw x l
  chains_inside i (suc k) s l e = go (ancestor (parents m) k i) (λ q. chains_inside i k q l) e
    where
      go : (r : Option ScopeIndex) → ((q : ScopeIndex) → r ≡ Some q → q.0 < m.rows 7) → above (parents m) r ≡ Some s → s.0 < m.rows 7
      go None f e = let z : ◌≡◌ {A = ℕ} 0 1 = cc in absurd (omega arith)
      go (Some q) f e = (scope_holds m q.0 (h.scope q.0 (f q refl))).parent s e

  -- a scope with links has a parent with one link less
  abbrev Lower : ℕ → Type 0
  Lower i = (j : ℕ) × (j < m.rows 7) × (links_of (parents m) (m.rows 7) i ≡ suc (links_of (parents m) (m.rows 7) j))

  down : (i : ℕ) → i < m.rows 7 → 0 < links_of (parents m) (m.rows 7) i → Lower i
  down i l u = go (parents m i) refl
    where
      go : (r : Option ScopeIndex) → parents m i ≡ r → Lower i
      go None e = let z = followed_none (parents m) (m.rows 7) (parents m i) e in absurd (omega arith)
      go (Some s) e =
          let x = parent_links (parents m) (m.rows 7) i s (links_few i l) e in
          (s.0, (scope_holds m i (h.scope i l)).parent s e, omega arith)

  pub links_bounded : LinksBounded m (links m)
  links_bounded = rw (links_total (parents m) (m.rows 7) (m.rows 7)) (depths_bounded (links_of (parents m) (m.rows 7)) (m.rows 7) down links_few)
