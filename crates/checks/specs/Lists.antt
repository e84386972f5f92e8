-- Lists of reactions by level (view.rs, `validate_level_ref`, `validate_levels`, `validate_lifecycle`). Assumes nothing.
use Rattle.std.specs.Prelude.{ℕ, ◌+◌, ◌-◌, ◌%◌, ◌^◌, not, cond, List, [], ◌∷◌, ◌++◌, eqb}
use Rattle.std.specs.Ordering.{nat_cmp, ordering_then}
use Rattle.std.specs.declared.cmp.Ordering.{Ordering}
use Rattle.answers.specs.declared.Refusal.TheVariants.{DuplicateEntry, EntriesNotSorted, OwnershipMismatch}
use Rattle.answers.specs.Fields.{row_field}
use Rattle.answers.specs.declared.field.Field.TheVariants as field
use Rattle.answers.specs.Checks.{Check, need, run}
use Rattle.schema.specs.declared.entries.LevelReactionImage.{LevelReactionImage}
use Rattle.schema.specs.declared.entries.LifecycleReactionImage.{LifecycleReactionImage}
use Rattle.checks.specs.Image.{ReactionPart}
use Rattle.checks.specs.Refs.{ref_to}
use Rattle.checks.specs.Identities.{is_equal, is_less}

-- the row number shown for entry k of a range: the Rust's `as u32`
abbrev pub entry_index : ℕ → ℕ → ℕ
entry_index start k = (start + k) % 2 ^ 32

-- by level, then by reaction
abbrev pub level_order : LevelReactionImage → LevelReactionImage → Ordering
level_order a b = ordering_then (nat_cmp a.level b.level) (nat_cmp a.reaction.0 b.reaction.0)

-- entry i of table t: its reaction is there, and has its level
abbrev pub level_ref_checks : (ℕ → ℕ) → (ℕ → ReactionPart) → ℕ → ℕ → LevelReactionImage → List Check
level_ref_checks rows reactions t i e =
    ref_to rows t i field.Reaction 5 e.reaction.0
    ∷ need (eqb (reactions e.reaction.0).level e.level) (OwnershipMismatch (row_field t i field.DependencyLevel))
    ∷ []

-- entry i of table t is above the entry before it, where o is how it compares with that one
abbrev pub order_checks : ℕ → ℕ → Ordering → List Check
order_checks t i o = need (not (is_equal o)) (DuplicateEntry t i) ∷ need (not (is_less o)) (EntriesNotSorted t i) ∷ []

abbrev pub level_order_checks : ℕ → ℕ → LevelReactionImage → LevelReactionImage → List Check
level_order_checks t i e before = order_checks t i (level_order e before)

abbrev pub after_first : ℕ → List Check → List Check
after_first k cs = cond (eqb k 0) [] cs

-- a list of entries that hold a reaction with its level, whatever else they hold: of each entry of table t, what its kind asks for itself, its
-- reaction's level, and its place after the entry before it
module _ {A : Type 0} (rows : ℕ → ℕ) (reactions : ℕ → ReactionPart) (own : ℕ → ℕ → A → List Check) (level : A → LevelReactionImage) where
  -- entry i, which holds x
  abbrev pub entry_checks : ℕ → ℕ → A → List Check
  entry_checks t i x = own t i x ++ level_ref_checks rows reactions t i (level x)

  -- entry k of the range of table t that begins at `start`
  unfoldable pub listed_checks : (ℕ → ℕ → A) → ℕ → ℕ → ℕ → List Check
  listed_checks entries t start k =
      entry_checks t (entry_index start k) (entries t (start + k))
      ++ after_first k (level_order_checks t (entry_index start k) (level (entries t (start + k))) (level (entries t (start + (k - 1)))))

  -- the `len` entries from `start`
  unfoldable pub range_of_checks : (ℕ → ℕ → A) → ℕ → ℕ → ℕ → List Check
  range_of_checks entries t start len = run (listed_checks entries t start) 0 len

-- what each kind asks for itself: an entry of levels nothing, one of lifecycle reactions that its action is there
abbrev pub no_more : (ℕ → ℕ) → ℕ → ℕ → LevelReactionImage → List Check
no_more rows t i x = []

abbrev pub action_checks : (ℕ → ℕ) → ℕ → ℕ → LifecycleReactionImage → List Check
action_checks rows t i x = ref_to rows t i field.Action 3 x.action.0 ∷ []

abbrev pub level_of : LevelReactionImage → LevelReactionImage
level_of x = x

abbrev pub reaction_of : LifecycleReactionImage → LevelReactionImage
reaction_of x = x.reaction

-- the lists of levels, and of lifecycle reactions
module _ (rows : ℕ → ℕ) (reactions : ℕ → ReactionPart) where
  abbrev pub level_checks : (ℕ → ℕ → LevelReactionImage) → ℕ → ℕ → ℕ → List Check
  level_checks levels t start k = listed_checks rows reactions (no_more rows) level_of levels t start k

  abbrev pub lifecycle_checks : (ℕ → ℕ → LifecycleReactionImage) → ℕ → ℕ → ℕ → List Check
  lifecycle_checks lifecycles t start k = listed_checks rows reactions (action_checks rows) reaction_of lifecycles t start k

  abbrev pub levels_checks : (ℕ → ℕ → LevelReactionImage) → ℕ → ℕ → ℕ → List Check
  levels_checks levels t start len = range_of_checks rows reactions (no_more rows) level_of levels t start len

  abbrev pub lifecycles_checks : (ℕ → ℕ → LifecycleReactionImage) → ℕ → ℕ → ℕ → List Check
  lifecycles_checks lifecycles t start len = range_of_checks rows reactions (action_checks rows) reaction_of lifecycles t start len
