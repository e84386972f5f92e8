-- Modes of an accepted enclave: each lies in one reactor's span, the spans' lengths add up, and modes and scopes with a mode pair off.
-- Assumes nothing.
use Rattle.std.specs.Prelude.{ℕ, ◌<◌, Bool, true, ◌≡◌, Some}
use Rattle.range.specs.Range.{contains}
use Rattle.schema.specs.Indexes.{ModeIndex}
use Rattle.checks.specs.Image.{Image}
use Rattle.accepted.specs.Totals.{total}

-- the reactor that mode j names
abbrev pub owner_of : Image → ℕ → ℕ
owner_of m j = (m.modes j).reactor.0

-- reactor r's span holds mode j
abbrev pub holds : Image → ℕ → ℕ → Bool
holds m j r = contains (m.reactors r).modes.0.start (m.reactors r).modes.0.len j

-- every mode lies in the span of exactly one reactor, the one it names
abbrev pub OneOwner : Image → Type 0
OneOwner m =
    (j : ℕ) → j < m.rows 6
    → (owner_of m j < m.rows 2)
    × (holds m j (owner_of m j) ≡ true)
    × ((r : ℕ) → r < m.rows 2 → holds m j r ≡ true → r ≡ owner_of m j)

-- the spans' lengths add up to the number of modes
abbrev pub SpansAddUp : Image → Type 0
SpansAddUp m = total (λ r. (m.reactors r).modes.0.len) (m.rows 2) ≡ m.rows 6

-- scope s carries mode j
abbrev pub Carries : Image → ℕ → ℕ → Type 0
Carries m s j = (m.scopes s).mode ≡ Some (record { 0 = j })

-- modes and mode-carrying scopes pair off one to one: the scope that a mode names carries it and no other does,
-- and the mode that a scope carries is there and no other mode is of that scope
pub record Pairing (m : Image) : Type 0 where
  pub scope_of : (j : ℕ) → j < m.rows 6 → ((m.modes j).scope.0 < m.rows 7) × Carries m (m.modes j).scope.0 j
  pub mode_of : (s : ℕ) → s < m.rows 7 → (j : ModeIndex) → (m.scopes s).mode ≡ Some j → (j.0 < m.rows 6) × ((m.modes j.0).scope.0 ≡ s)
  pub one_mode : (j k : ℕ) → j < m.rows 6 → k < m.rows 6 → (m.modes j).scope.0 ≡ (m.modes k).scope.0 → j ≡ k
  pub one_scope : (s t j : ℕ) → s < m.rows 7 → t < m.rows 7 → Carries m s j → Carries m t j → s ≡ t
