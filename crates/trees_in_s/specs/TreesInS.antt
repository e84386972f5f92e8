-- Document 01's S with the scopes of a table of parents, and what its check answers (document 02, Wish 10). Assumes nothing.
use Rattle.std.specs.Prelude.{ℕ, zero, suc, ◌<◌, ◌≤◌, ◌≡◌, List, [], ◌∷◌, ◌++◌, None}
use Rattle.scope_checks.specs.Links.{links_below}
use Rattle.enclave.specs.Answer.{enclave_answer}
use Rattle.accepted.specs.Chains.{ancestor}
use Rattle.accepted.specs.Worth.{Accepted}
use Rattle.cases.specs.Packs.{scope, scope_under, ab, enclave_s, reactor_s, binding_s}
use Rattle.trees.specs.Trees.{parents_in}
use Rattle.trees.specs.Promises.{ParentTable, EveryChainEnds}

-- the scopes of a table, all of reactor 0
unfoldable pub scopes_of : List ℕ → List ℕ
scopes_of [] = []
scopes_of (zero ∷ t) = scope 0 ++ scopes_of t
scopes_of (suc p ∷ t) = scope_under p ++ scopes_of t

-- "document 01's S, with the scopes added"
abbrev pub s_with : List ℕ → List ℕ
s_with t = enclave_s ++ (reactor_s ++ (scopes_of t ++ binding_s))

-- "every legal table is accepted", with its links
abbrev pub LegalAccepted : Type 0
LegalAccepted =
    (n : ℕ) → 1 ≤ n → n ≤ 4 → (t : List ℕ) → ParentTable n t → EveryChainEnds n t
    → Accepted (s_with t) ab [] (links_below (parents_in t) n n)

-- the chain of parents of scope s never ends, and that of each scope before it does
abbrev pub FirstEndless : ℕ → List ℕ → ℕ → Type 0
FirstEndless n t s = (s < n) × ((k : ℕ) → ancestor (parents_in t) k s ≡ None → ⊥) × EveryChainEnds s t

-- "every other table of such bytes gets 18", with that scope
abbrev pub OthersRefused : Type 0
OthersRefused =
    (n : ℕ) → 1 ≤ n → n ≤ 4 → (t : List ℕ) → ParentTable n t → (EveryChainEnds n t → ⊥)
    → (s : ℕ) × FirstEndless n t s × (enclave_answer (s_with t) ab [] ≡ 18 ∷ s ∷ [])
