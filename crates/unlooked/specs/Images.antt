-- Two images that agree on the rows of their tables: what stands past a table is not looked at. Assumes nothing.
use Rattle.std.specs.Prelude.{ℕ, ◌<◌, Bool, true, false, ◌||◌, ◌≡◌, List, [], ◌∷◌, eqb}
use Rattle.checks.specs.Image.{Image}
use Rattle.enclave.specs.Answer.{image_answer}

-- t is one of the tables ts
abbrev pub one_of : List ℕ → ℕ → Bool
one_of [] t = false
one_of (u ∷ us) t = eqb t u || one_of us t

-- the list tables by what their rows hold: one index; level and reaction; action and delay; level, reaction and action
abbrev pub index_tables : List ℕ
index_tables = 9 ∷ 10 ∷ 11 ∷ 12 ∷ 13 ∷ 14 ∷ 22 ∷ []

abbrev pub level_tables : List ℕ
level_tables = 8 ∷ 16 ∷ []

abbrev pub startup_tables : List ℕ
startup_tables = 15 ∷ 19 ∷ 20 ∷ []

abbrev pub lifecycle_tables : List ℕ
lifecycle_tables = 17 ∷ 18 ∷ 21 ∷ []

-- n has m's tables, and in them m's rows; nothing is said of an index past its table
pub record SameRows (m n : Image) : Type 0 where
  pub rows : n.rows ≡ m.rows
  pub reactors : (i : ℕ) → i < m.rows 2 → n.reactors i ≡ m.reactors i
  pub actions : (i : ℕ) → i < m.rows 3 → n.actions i ≡ m.actions i
  pub ports : (i : ℕ) → i < m.rows 4 → n.ports i ≡ m.ports i
  pub reactions : (i : ℕ) → i < m.rows 5 → n.reactions i ≡ m.reactions i
  pub modes : (i : ℕ) → i < m.rows 6 → n.modes i ≡ m.modes i
  pub scopes : (i : ℕ) → i < m.rows 7 → n.scopes i ≡ m.scopes i
  pub indexes : (t i : ℕ) → one_of index_tables t ≡ true → i < m.rows t → n.indexes t i ≡ m.indexes t i
  pub levels : (t i : ℕ) → one_of level_tables t ≡ true → i < m.rows t → n.levels t i ≡ m.levels t i
  pub startups : (t i : ℕ) → one_of startup_tables t ≡ true → i < m.rows t → n.startups t i ≡ m.startups t i
  pub lifecycles : (t i : ℕ) → one_of lifecycle_tables t ≡ true → i < m.rows t → n.lifecycles t i ≡ m.lifecycles t i
  pub routes : (i : ℕ) → i < m.rows 23 → n.routes i ≡ m.routes i
  pub bindings : (i : ℕ) → i < m.rows 24 → n.bindings i ≡ m.bindings i
  pub deadlines : (i : ℕ) → i < m.rows 25 → n.deadlines i ≡ m.deadlines i
  pub enclave_id : n.enclave_id ≡ m.enclave_id
  pub text : n.text ≡ m.text
  pub state_slots : n.state_slots ≡ m.state_slots
  pub action_slots : n.action_slots ≡ m.action_slots

-- such images have one answer, links and refusals included
abbrev pub RowsDecide : Type 0
RowsDecide = (m n : Image) → SameRows m n → image_answer n ≡ image_answer m
