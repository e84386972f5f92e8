-- The checks of list tables' entries, and of the ranges of rows that lead to them: view.rs, the loops after the parent walk. Assumes nothing.
use Rattle.std.specs.Prelude.{◌+◌, ◌-◌, ℕ, List, [], ◌∷◌, ◌++◌, eqb}
use Rattle.std.specs.Ordering.{nat_cmp}
use Rattle.answers.specs.declared.Refusal.TheVariants.{OwnershipMismatch}
use Rattle.answers.specs.Fields.{row_field}
use Rattle.answers.specs.declared.field.Field.{Field}
use Rattle.answers.specs.declared.field.Field.TheVariants as field
use Rattle.answers.specs.Checks.{Check, need, run}
use Rattle.schema.specs.declared.entries.LevelReactionImage.{LevelReactionImage}
use Rattle.checks.specs.Image.{Image, ReactionPart}
use Rattle.schema.specs.declared.rows.ModeImage.{ModeImage}
use Rattle.checks.specs.Refs.{ref_to}
use Rattle.range.specs.declared.SliceRange.{SliceRange}
use Rattle.checks.specs.Lists.{entry_index, after_first, order_checks, entry_checks, no_more, level_of, action_checks, reaction_of, levels_checks, lifecycle_checks, lifecycles_checks}

-- entry i of table t, which names `named i`, refers in the field f to table g
unfoldable pub named_checks : ℕ → Field → ℕ → (ℕ → ℕ) → Image → ℕ → List Check
named_checks t f g named m i = ref_to m.rows t i f g (named i) ∷ []

-- an entry of one index, and one that names an action to start
unfoldable pub index_checks : ℕ → Field → ℕ → Image → ℕ → List Check
index_checks t f g m i = named_checks t f g (m.indexes t) m i

unfoldable pub startup_checks : ℕ → Image → ℕ → List Check
startup_checks t m i = named_checks t field.Action 3 (m.startups t) m i

-- the triggers of row i, and so of action i and of port i
unfoldable pub trigger_checks : (ℕ → SliceRange) → Image → ℕ → List Check
trigger_checks triggers m i = levels_checks m.rows m.reactions m.levels 8 (triggers i).start (triggers i).len

unfoldable pub action_trigger_checks : Image → ℕ → List Check
action_trigger_checks m i = trigger_checks (λ j. (m.actions j).triggers) m i

unfoldable pub port_trigger_checks : Image → ℕ → List Check
port_trigger_checks m i = trigger_checks (λ j. (m.ports j).triggers) m i

-- entry k of the enabled modes of reaction i, which is the reactor's: the mode is there, and the reactor's too
unfoldable pub enabled_mode_checks : (ℕ → ℕ) → (ℕ → ModeImage) → (ℕ → ℕ → ℕ) → ℕ → ℕ → ℕ → ℕ → List Check
enabled_mode_checks rows modes indexes i reactor start k =
    ref_to rows 12 (entry_index start k) field.Mode 6 (indexes 12 (start + k))
    ∷ need (eqb (modes (indexes 12 (start + k))).reactor.0 reactor) (OwnershipMismatch (row_field 5 i field.EnabledModesReactor))
    ∷ []

unfoldable pub enabled_modes_checks : Image → ℕ → List Check
enabled_modes_checks m i =
    run
    (enabled_mode_checks m.rows m.modes m.indexes i (m.reactions i).reactor (m.reactions i).enabled.start)
    0
    (m.reactions i).enabled.len

-- the reset, startup and shutdown reactions of scope i
unfoldable pub scope_list_checks : Image → ℕ → List Check
scope_list_checks m i =
    levels_checks m.rows m.reactions m.levels 16 (m.scopes i).reset_reactions.start (m.scopes i).reset_reactions.len
    ++ (lifecycles_checks m.rows m.reactions m.lifecycles 17 (m.scopes i).startup_reactions.start (m.scopes i).startup_reactions.len
    ++ lifecycles_checks m.rows m.reactions m.lifecycles 18 (m.scopes i).shutdown_reactions.start (m.scopes i).shutdown_reactions.len)

-- every entry of table t, whether or not some range covers it: by itself
module _ {A : Type 0} (rows : ℕ → ℕ) (reactions : ℕ → ReactionPart) (own : ℕ → ℕ → A → List Check) (level : A → LevelReactionImage) where
  unfoldable pub listed_entry_checks : (ℕ → ℕ → A) → ℕ → ℕ → List Check
  listed_entry_checks entries t i = entry_checks rows reactions own level t i (entries t i)

unfoldable pub level_entry_checks : ℕ → Image → ℕ → List Check
level_entry_checks t m i = listed_entry_checks m.rows m.reactions (no_more m.rows) level_of m.levels t i

unfoldable pub lifecycle_entry_checks : ℕ → Image → ℕ → List Check
lifecycle_entry_checks t m i = listed_entry_checks m.rows m.reactions (action_checks m.rows) reaction_of m.lifecycles t i

-- the shutdown reactions, one list over the whole table
abbrev pub shutdown_reaction_checks : Image → ℕ → List Check
shutdown_reaction_checks m i = lifecycle_checks m.rows m.reactions m.lifecycles 21 0 i

-- the shutdown actions: each there, and above the one before
unfoldable pub index_order_checks : ℕ → ℕ → ℕ → ℕ → List Check
index_order_checks t i v before = order_checks t i (nat_cmp v before)

unfoldable pub shutdown_action_checks : Image → ℕ → List Check
shutdown_action_checks m i =
    index_checks 22 field.Action 3 m i
    ++ after_first i (index_order_checks 22 i (m.indexes 22 i) (m.indexes 22 (i - 1)))
