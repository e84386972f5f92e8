-- Chains of parents of an accepted enclave: none comes back, each ends, and the links have a bound. Assumes nothing.
use Rattle.std.specs.Prelude.{ℕ, zero, suc, ◌-◌, ◌*◌, ◌/◌, ◌<◌, ◌≤◌, ◌≡◌, Option, Some, None}
use Rattle.schema.specs.Indexes.{ScopeIndex}
use Rattle.checks.specs.Image.{Image}
use Rattle.scope_checks.specs.Links.{links_of, parents}

-- the parent of a scope, where there is one
abbrev pub above : (ℕ → Option ScopeIndex) → Option ScopeIndex → Option ScopeIndex
above parent None = None
above parent (Some s) = parent s.0

-- where k links lead from scope i: the scope itself, its parent, that one's parent, ..; none after the last
unfoldable pub ancestor : (ℕ → Option ScopeIndex) → ℕ → ℕ → Option ScopeIndex
ancestor parent zero i = Some (record { 0 = i })
ancestor parent (suc k) i = above parent (ancestor parent k i)

-- a chain of parents never comes back: no scope is in it twice
abbrev pub NoReturn : Image → Type 0
NoReturn m =
    (i j k : ℕ) (s : ScopeIndex) → i < m.rows 7 → j < k
    → ancestor (parents m) j i ≡ Some s → ancestor (parents m) k i ≡ Some s → ⊥

-- it ends after its links and not before, and they are at most one fewer than there are scopes
abbrev pub ChainsEnd : Image → Type 0
ChainsEnd m =
    (i : ℕ) → i < m.rows 7
    → (links_of (parents m) (m.rows 7) i ≤ m.rows 7 - 1)
    × (ancestor (parents m) (suc (links_of (parents m) (m.rows 7) i)) i ≡ None)
    × ((k : ℕ) → ancestor (parents m) k i ≡ None → links_of (parents m) (m.rows 7) i < k)

-- and it stays among the scopes of the table
abbrev pub ChainsInside : Image → Type 0
ChainsInside m =
    (i k : ℕ) (s : ScopeIndex) → i < m.rows 7 → ancestor (parents m) k i ≡ Some s → s.0 < m.rows 7

-- n times (n - 1) / 2, for n scopes
abbrev pub most_links : Image → ℕ
most_links m = m.rows 7 * (m.rows 7 - 1) / 2

-- c links are no more than that
abbrev pub LinksBounded : Image → ℕ → Type 0
LinksBounded m c = c ≤ most_links m
