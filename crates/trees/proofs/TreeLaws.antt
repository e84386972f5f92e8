-- Laws of legal tables: what the code's tests of parents, of bytes and of chains come to. Assumes nothing.
use Prim.Native.Nat.{ℕ, zero, suc, ◌+◌, ◌-◌, ◌<◌, ◌≤◌}
use mathlib.Core.Bool.{true, false, and-false}
use mathlib.Core.Path.{◌≡◌, refl, sym}
use mathlib.Core.List.{List, [], ◌∷◌}
use native.Mathlib.Numerals.{add-one}
use native.Mathlib.Omega.{arith}
use lib.Dec.{leb}
use lib.ListN.{length, get_or, drop}
use borrow.Author.Tests.{le-leb, lt-leb, leb-true}
use Rattle.std.proofs.lemmas.List.{drop_more, drop_all}
use Rattle.std.specs.Prelude.{Option, Some, None, is_none}
use Rattle.identity.proofs.Tests.{below_or_not, both}
use Rattle.schema.specs.Indexes.{ScopeIndex}
use Rattle.scope_checks.specs.Links.{links_of}
use Rattle.accepted.specs.Chains.{ancestor}
use Rattle.accepted.proofs.Chains.{chain_ends, not_before, none_stays}
use Rattle.trees.specs.Trees.{parent_of, parents_in, at_most, ends, all_end, legal}

-- a byte as a parent
pub parent_none : (b : ℕ) → b ≡ 0 → None ≡ parent_of b
parent_none b e = rw e refl

pub parent_some : (b : ℕ) → 0 < b → Some (record { 0 = b - 1 }) ≡ parent_of b
parent_some zero h = absurd (omega arith)
parent_some (suc p) h = let e : suc p - 1 ≡ p = omega arith in rw e refl

pub ruleset parent_laws = (parent_none, parent_some)

-- n links lead to none exactly where fewer are followed
module _ (parent : ℕ → Option ScopeIndex) (n i : ℕ) where
  pub few_end : links_of parent n i < n → ancestor parent n i ≡ None
  few_end l = none_stays parent i (suc (links_of parent n i)) n (omega arith) (chain_ends parent n i l)

  pub many_go_on : n ≤ links_of parent n i → (ancestor parent n i ≡ None → ⊥)
  many_go_on l e = let h = not_before parent n i n e in absurd (omega arith)

none_is : (o : Option ScopeIndex) → o ≡ None → is_none o ≡ true
none_is o e = rw e refl

some_is : (o : Option ScopeIndex) → (o ≡ None → ⊥) → is_none o ≡ false
some_is None h = absurd (h refl)
some_is (Some s) h = refl

pub ends_true : (n : ℕ) (t : List ℕ) (i : ℕ) → links_of (parents_in t) n i < n → ends n t i ≡ true
ends_true n t i l = none_is (ancestor (parents_in t) n i) (few_end (parents_in t) n i l)

pub ends_false : (n : ℕ) (t : List ℕ) (i : ℕ) → n ≤ links_of (parents_in t) n i → ends n t i ≡ false
ends_false n t i l = some_is (ancestor (parents_in t) n i) (many_go_on (parents_in t) n i l)

-- the chains of no scope, of one more, and of one that goes on
pub ends_none : (n : ℕ) (t : List ℕ) → all_end n t 0 ≡ true
unfolding all_end
ends_none n t = refl

pub ends_more : (n : ℕ) (t : List ℕ) (i : ℕ) → all_end n t i ≡ true → links_of (parents_in t) n i < n → all_end n t (i + 1) ≡ true
unfolding all_end
ends_more n t i e l = rw (add-one, e, ends_true n t i l) refl

pub goes_on : (n : ℕ) (t : List ℕ) (k i : ℕ) → i < k → n ≤ links_of (parents_in t) n i → all_end n t k ≡ false
unfolding all_end
goes_on n t zero i h l = absurd (omega arith)
goes_on n t (suc k) i h l =
    below_or_not i k
    (λ g. rw (goes_on n t k i g l) refl)
    (λ g. let z : i ≡ k = omega arith in let f = rw z at (ends_false n t i l) in rw f (and-false (all_end n t k)))

pub not_legal : (n : ℕ) (t : List ℕ) (i : ℕ) → i < n → n ≤ links_of (parents_in t) n i → false ≡ legal n t
not_legal n t i h l = sym (goes_on n t n i h l)

pub ruleset legal_laws = (ends_none, ends_more, not_legal)

-- each of them, from all
pub each_ends : (n : ℕ) (t : List ℕ) (k : ℕ) → all_end n t k ≡ true → (i : ℕ) → i < k → ends n t i ≡ true
unfolding all_end
each_ends n t zero e i h = absurd (omega arith)
each_ends n t (suc k) e i h =
    let b = both (all_end n t k) (ends n t k) e in
    below_or_not i k (λ g. each_ends n t k b.0 i g) (λ g. let z : i ≡ k = omega arith in rw z b.1)

-- and all of them, from each
pub all_from : (n : ℕ) (t : List ℕ) (k : ℕ) → ((i : ℕ) → i < k → ends n t i ≡ true) → all_end n t k ≡ true
unfolding all_end
all_from n t zero h = refl
all_from n t (suc k) h = rw (all_from n t k (λ i l. h i (omega arith)), h k (omega arith)) refl

pub is_end : (n : ℕ) (t : List ℕ) (i : ℕ) → ends n t i ≡ true → ancestor (parents_in t) n i ≡ None
is_end n t i e = go (ancestor (parents_in t) n i) e
  where
    go : (o : Option ScopeIndex) → is_none o ≡ true → o ≡ None
    go None e = refl
    go (Some s) e = let z : ◌≡◌ {A = ℕ} 0 1 = cc in absurd (omega arith)

pub ends_is : (n : ℕ) (t : List ℕ) (i : ℕ) → ancestor (parents_in t) n i ≡ None → ends n t i ≡ true
ends_is n t i e = none_is (ancestor (parents_in t) n i) e

-- bytes over n
pub each_at_most : (n : ℕ) (t : List ℕ) → at_most n t ≡ true → (i : ℕ) → get_or t i 0 ≤ n
unfolding at_most
each_at_most n [] e i = omega arith
each_at_most n (b ∷ t) e zero = leb-true b n (both (leb b n) (at_most n t) e).0
each_at_most n (b ∷ t) e (suc i) = each_at_most n t (both (leb b n) (at_most n t) e).1 i

pub at_most_from : (n : ℕ) (t : List ℕ) → ((i : ℕ) → get_or t i 0 ≤ n) → at_most n t ≡ true
unfolding at_most
at_most_from n [] h = refl
at_most_from n (b ∷ t) h = rw (le-leb b n (h 0), at_most_from n t (λ i. h (suc i))) refl

-- from byte i on, one that is not over, one that is, and no more
pub byte_within : (n : ℕ) (t : List ℕ) (i : ℕ) → i < length t → get_or t i 0 ≤ n → at_most n (drop (i + 1) t) ≡ at_most n (drop i t)
unfolding at_most
byte_within n t i l h = rw (drop_more t i 0 l, le-leb (get_or t i 0) n h) refl

pub byte_over : (n : ℕ) (t : List ℕ) (i : ℕ) → i < length t → n < get_or t i 0 → false ≡ at_most n (drop i t)
unfolding at_most
byte_over n t i l h = rw (drop_more t i 0 l, lt-leb (get_or t i 0) n h) refl

pub bytes_over : (n : ℕ) (t : List ℕ) (i : ℕ) → length t ≤ i → true ≡ at_most n (drop i t)
unfolding at_most
bytes_over n t i l = rw (drop_all i t l) refl

pub ruleset byte_laws = (byte_within, byte_over, bytes_over)
