-- What document 02 promises of small scope trees holds; that legal is what its name says, in Ending.antt. Assumes nothing.
use Prim.Native.Nat.{ℕ, ◌+◌, ◌-◌, ◌<◌}
use mathlib.Core.Bool.{true}
use mathlib.Core.Path.{◌≡◌, refl, ap}
use mathlib.Core.List.{List}
use native.Mathlib.Omega.{arith}
use lib.ListN.{get_or}
use Rattle.std.specs.Prelude.{Contains, All, AllPairs, ◌≢◌}
use Rattle.accepted.specs.Chains.{ancestor}
use Rattle.trees.specs.Trees.{all_end, legal, number, digits, table_of, total, tables, legal_from}
use Rattle.trees.specs.Promises.{ParentTable, EveryChainEnds, trees, AllTreesOnce, Counts}
use Rattle.trees.proofs.NumberLaws.{digits_length, digits_below, value_digits, digits_value, value_below}
use Rattle.trees.proofs.ListLaws.{contained, elements, pairs}
use Rattle.trees.proofs.Ending.{legal_is_ending}
use Rattle.trees.proofs.Following.{first_on}

module _ (n : ℕ) where
  small : (t : List ℕ) → ParentTable n t → (i : ℕ) → get_or t i 0 < n + 1
  small t p i = let h = p.1 i in omega arith

  is_table : (w : ℕ) → ParentTable n (table_of n w)
  is_table w = (digits_length (n + 1) n w, λ i. let h = digits_below (n + 1) n w (omega arith) i in omega arith)

  number_is : (w : ℕ) → w < 0 + (total n - 0) → number n (table_of n w) ≡ w
  number_is w h = value_digits (n + 1) n w (omega arith) (omega arith)

  each : (t : List ℕ) → ParentTable n t → EveryChainEnds n t → Contains (trees n) t
  unfolding legal_from
  each t p h =
      let d : table_of n (number n t) ≡ t = digits_value (n + 1) n t p.0 (small t p) in
      let b : number n t < total n = value_below (n + 1) t n (small t p) in
      let e : legal n (table_of n (number n t)) ≡ true = rw d ((legal_is_ending n t p).1 h) in
      rw d at (contained n 0 (total n - 0) (number n t) (omega arith) (omega arith) e)

  only : All (λ t. ParentTable n t × EveryChainEnds n t) (trees n)
  unfolding legal_from
  only = elements n (λ t. ParentTable n t × EveryChainEnds n t) 0 (total n - 0) (λ w l m e. (is_table w, (legal_is_ending n (table_of n w) (is_table w)).0 e))

  rising : AllPairs (λ t u. number n t < number n u) (trees n)
  unfolding legal_from
  rising = pairs n (λ t u. number n t < number n u) 0 (total n - 0) (λ v w l m o. rw (number_is v (omega arith), number_is w o) m)

  once : AllPairs (λ t u. t ≢ u) (trees n)
  once i j d l m e =
      let h = rising i j d l m in
      let z : number n (get_or (trees n) i d) ≡ number n (get_or (trees n) j d) = ap (λ t. number n t) e in
      absurd (omega arith)

pub all_trees_once : AllTreesOnce
all_trees_once n l h = record { listed = first_on n l h; each = each n; only = only n; rising = rising n; once = once n }

-- by computation
pub counts : Counts
unfolding legal_from tables digits all_end ancestor
counts = refl
