-- Parent links: for each scope, parents followed until none or until as many as there are scopes; the count is the sum over scopes
-- (document 01, module 5). Assumes nothing.
use Rattle.std.specs.Prelude.{ℕ, zero, suc, ◌+◌, List, [], ◌∷◌, ltb, Option, Some, None}
use Rattle.answers.specs.declared.Refusal.TheVariants.{ScopeParentCycle}
use Rattle.answers.specs.Checks.{Check, need}
use Rattle.checks.specs.Image.{Image}
use Rattle.schema.specs.Indexes.{ScopeIndex}

-- how many parents are followed from the reference r on, at most k
unfoldable pub followed : (ℕ → Option ScopeIndex) → ℕ → Option ScopeIndex → ℕ
followed parent zero r = 0
followed parent (suc k) None = 0
followed parent (suc k) (Some s) = suc (followed parent k (parent s.0))

-- the links of scope i among n scopes
abbrev pub links_of : (ℕ → Option ScopeIndex) → ℕ → ℕ → ℕ
links_of parent n i = followed parent n (parent i)

-- the sum over the first k of n scopes
unfoldable pub links_below : (ℕ → Option ScopeIndex) → ℕ → ℕ → ℕ
links_below parent n zero = 0
links_below parent n (suc k) = links_below parent n k + links_of parent n k

abbrev pub parents : Image → ℕ → Option ScopeIndex
parents m i = (m.scopes i).parent

-- the links of an enclave
abbrev pub links : Image → ℕ
links m = links_below (parents m) (m.rows 7) (m.rows 7)

-- as many links as there are scopes: a cycle (view.rs, the loop over ancestors)
unfoldable pub cycle_checks : Image → ℕ → List Check
cycle_checks m i = need (ltb (links_of (parents m) (m.rows 7) i) (m.rows 7)) (ScopeParentCycle i) ∷ []
