-- A chain of parents among n scopes that ends at all ends after n links at most: each depth down to 0 has a scope of its own. Assumes nothing.
use Prim.Native.Nat.{ℕ, zero, suc, ◌<◌, ◌≤◌}
use mathlib.Core.Bool.{true, cond}
use mathlib.Core.Path.{◌≡◌, refl}
use mathlib.Core.List.{List}
use native.Mathlib.Omega.{arith}
use lib.Dec.{ltb}
use lib.ListN.{get_or}
use borrow.Author.Tests.{lt-ltb, le-ltb}
use Rattle.std.specs.Prelude.{Option, Some, None}
use Rattle.identity.proofs.Tests.{below_or_not}
use Rattle.schema.specs.Indexes.{ScopeIndex}
use Rattle.scope_checks.specs.Links.{links_of}
use Rattle.scope_checks.proofs.LinksLaws.{followed_none, parent_links}
use Rattle.accepted.specs.Chains.{ancestor}
use Rattle.accepted.proofs.Chains.{chain_ends, not_before, none_stays}
use Rattle.accepted.proofs.Depths.{depth_few}
use Rattle.trees.specs.Trees.{parent_of, parents_in, ends}
use Rattle.trees.specs.Promises.{ParentTable, LegalIsEnding}
use Rattle.trees.proofs.TreeLaws.{each_ends, all_from, is_end, ends_is}

module _ (parent : ℕ → Option ScopeIndex) (n : ℕ) (inside : (i : ℕ) (s : ScopeIndex) → parent i ≡ Some s → s.0 < n) where
  module _ (b : ℕ) where
    -- a scope's links, where fewer than b are followed; 0 for a chain that goes on
    abbrev depth : ℕ → ℕ
    depth i = cond (ltb (links_of parent b i) b) (links_of parent b i) 0

    is_depth : (i : ℕ) → links_of parent b i < b → depth i ≡ links_of parent b i
    is_depth i l = rw (lt-ltb _ _ l) refl

    no_depth : (i : ℕ) → b ≤ links_of parent b i → depth i ≡ 0
    no_depth i l = rw (le-ltb _ _ l) refl

    -- a scope with links has a parent with one link less
    abbrev Lower : ℕ → Type 0
    Lower i = (j : ℕ) × (j < n) × (depth i ≡ suc (depth j))

    lower : (i : ℕ) → links_of parent b i < b → 0 < links_of parent b i → (r : Option ScopeIndex) → parent i ≡ r → Lower i
    lower i l u None e = let z = followed_none parent b (parent i) e in absurd (omega arith)
    lower i l u (Some s) e =
        let x = parent_links parent b i s l e in
        let p = is_depth i l in
        let q = is_depth s.0 (omega arith) in
        (s.0, inside i s e, omega arith)

    down : (i : ℕ) → i < n → 0 < depth i → Lower i
    down i h u =
        below_or_not (links_of parent b i) b
        (λ l. let p = is_depth i l in lower i l (omega arith) (parent i) refl)
        (λ l. let p = no_depth i l in absurd (omega arith))

  pub ends_within : (i k : ℕ) → i < n → ancestor parent k i ≡ None → ancestor parent n i ≡ None
  ends_within i k h e =
      let l = not_before parent (suc k) i k e in
      let p = is_depth (suc k) i (omega arith) in
      let d = depth_few (depth (suc k)) n (down (suc k)) i h in
      none_stays parent i (suc (links_of parent (suc k) i)) n (omega arith) (chain_ends parent (suc k) i (omega arith))

-- a parent in a table is one of its scopes
parent_inside : (b n : ℕ) (s : ScopeIndex) → b ≤ n → parent_of b ≡ Some s → s.0 < n
parent_inside zero n s h e = let z : ◌≡◌ {A = ℕ} 0 1 = cc in absurd (omega arith)
parent_inside (suc p) n s h e = let x : s ≡ record { 0 = p } = cc in rw x (omega arith)

-- so a chain in a table ends, or n links show that it does not
pub ends_at_all : (n : ℕ) (t : List ℕ) (i k : ℕ) → ParentTable n t → i < n → ancestor (parents_in t) k i ≡ None → ends n t i ≡ true
ends_at_all n t i k p h e =
    ends_is n t i (ends_within (parents_in t) n (λ j s e. parent_inside (get_or t j 0) n s (p.1 j) e) i k h e)

pub legal_is_ending : LegalIsEnding
legal_is_ending n t p = (
  λ e i h. (n, is_end n t i (each_ends n t n e i h)),
  λ f. all_from n t n (λ i h. let c = f i h in ends_at_all n t i c.0 p h c.1),
)
