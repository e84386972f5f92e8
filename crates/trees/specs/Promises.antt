-- What document 02 promises of small scope trees (Wish 10). Assumes nothing.
use Rattle.std.specs.Prelude.{ℕ, zero, suc, ◌<◌, ◌≤◌, true, ◌≡◌, ◌≢◌, ◌↔◌, List, [], ◌∷◌, map, length, get_or, Contains, All, AllPairs, None, Result, Ok, Err}
use Rattle.answers.specs.declared.Refusal.{Refusal}
use Rattle.accepted.specs.Chains.{ancestor}
use Rattle.trees.specs.declared.Next.{Next}
use Rattle.trees.specs.declared.Next.TheVariants.{Table, End}
use Rattle.trees.specs.Trees.{parents_in, legal, number, total, legal_from}
use Rattle.trees.specs.Answer.{first_bytes, next_answer, next_bytes}

-- t has a byte for each of n scopes, and none is over n
abbrev pub ParentTable : ℕ → List ℕ → Type 0
ParentTable n t = (length t ≡ n) × ((i : ℕ) → get_or t i 0 ≤ n)

-- every scope's chain of parents ends, after however many links
abbrev pub EveryChainEnds : ℕ → List ℕ → Type 0
EveryChainEnds n t = (i : ℕ) → i < n → (k : ℕ) × (ancestor (parents_in t) k i ≡ None)

-- "legal": no chain of parents goes on for ever, and n links are enough to see it
abbrev pub LegalIsEnding : Type 0
LegalIsEnding = (n : ℕ) (t : List ℕ) → ParentTable n t → (legal n t ≡ true) ↔ EveryChainEnds n t

-- all legal tables of n scopes, rising
abbrev pub trees : ℕ → List (List ℕ)
trees n = legal_from n 0

-- the bytes t and what follows them by next, until it gives no table: k tables at most
abbrev pub onward : Result Next Refusal → List (List ℕ) → List (List ℕ)
onward (Ok Table) ts = ts
onward (Ok End) ts = []
onward (Err r) ts = []

unfoldable pub following : ℕ → ℕ → List ℕ → List (List ℕ)
following n zero t = []
following n (suc k) t = t ∷ onward (next_answer n t) (following n k (next_bytes n t))

-- "each legal table appears once", and nothing else does
pub record AllOnce (n : ℕ) : Type 0 where
  -- first, whatever the lent bytes held, and then next until the end give the list
  pub listed : (t : List ℕ) (k : ℕ) → length t ≡ n → total n ≤ k → following n k (first_bytes n t) ≡ trees n
  -- each legal table is in it, and each in it is legal
  pub each : (t : List ℕ) → ParentTable n t → EveryChainEnds n t → Contains (trees n) t
  pub only : All (λ t. ParentTable n t × EveryChainEnds n t) (trees n)
  -- they rise as numbers, and none stands twice
  pub rising : AllPairs (λ t u. number n t < number n u) (trees n)
  pub once : AllPairs (λ t u. t ≢ u) (trees n)

abbrev pub AllTreesOnce : Type 0
AllTreesOnce = (n : ℕ) → 1 ≤ n → n ≤ 4 → AllOnce n

-- "1, 3, 16 and 125 of them"
abbrev pub Counts : Type 0
Counts = map (λ n. length (trees n)) (1 ∷ 2 ∷ 3 ∷ 4 ∷ []) ≡ 1 ∷ 3 ∷ 16 ∷ 125 ∷ []
