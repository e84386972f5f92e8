-- The checks of a row of reactions: view.rs, the fourth row loop. Assumes nothing.
use Rattle.std.specs.Prelude.{ℕ, List, [], ◌∷◌, ◌++◌, eqb, Option, Some, None}
use Rattle.answers.specs.declared.Refusal.TheVariants.{OwnershipMismatch}
use Rattle.answers.specs.Fields.{row_field}
use Rattle.answers.specs.declared.field.Field.TheVariants as field
use Rattle.answers.specs.Checks.{Check, need}
use Rattle.schema.specs.declared.index.BindingKind.TheVariants.{Reaction}
use Rattle.schema.specs.Indexes.{ModeIndex}
use Rattle.schema.specs.declared.rows.ModeImage.{ModeImage}
use Rattle.checks.specs.Image.{Image, ReactionPart}
use Rattle.checks.specs.Refs.{ref_to, range_checks, range_end, end_before}
use Rattle.row_checks.specs.declared.reactions.ReactionEnds.{ReactionEnds}
use Rattle.row_checks.specs.Bindings.{binding_checks}

-- the target of a mode effect is there, and a mode of the reaction's reactor
unfoldable pub effect_checks : (ℕ → ℕ) → (ℕ → ModeImage) → ℕ → ℕ → Option ModeIndex → List Check
effect_checks rows modes i reactor None = []
effect_checks rows modes i reactor (Some m) =
    ref_to rows 5 i field.ModeEffectTarget 6 m.0
    ∷ need (eqb (modes m.0).reactor.0 reactor) (OwnershipMismatch (row_field 5 i field.ModeEffectTargetReactor))
    ∷ []

-- reactor, scope and binding are there; the scope is the reactor's
unfoldable pub reaction_owner_checks : Image → ℕ → ReactionPart → List Check
reaction_owner_checks m i row =
    (ref_to m.rows 5 i field.Reactor 2 row.reactor ∷ [])
    ++ ((ref_to m.rows 5 i field.Scope 7 row.scope ∷ [])
    ++ (binding_checks m.rows m.bindings 5 i field.Binding Reaction row.binding
    ++ (need (eqb (m.scopes row.scope).reactor.0 row.reactor) (OwnershipMismatch (row_field 5 i field.ScopeReactor)) ∷ [])))

-- where the four ranges of a row end
abbrev pub reaction_ends_of : ReactionPart → ReactionEnds
reaction_ends_of row =
    record {
      uses = range_end row.uses;
      effects = range_end row.effects;
      actions = range_end row.actions;
      enabled = range_end row.enabled;
    }

abbrev pub no_reaction_ends : ReactionEnds
no_reaction_ends = record { uses = 0; effects = 0; actions = 0; enabled = 0 }

-- where the ranges of the row before end
unfoldable pub reaction_ends_before : (ℕ → ReactionPart) → ℕ → ReactionEnds
reaction_ends_before reactions i =
    record {
      uses = end_before (λ j. range_end (reactions j).uses) i;
      effects = end_before (λ j. range_end (reactions j).effects) i;
      actions = end_before (λ j. range_end (reactions j).actions) i;
      enabled = end_before (λ j. range_end (reactions j).enabled) i;
    }

-- the four ranges, each against the end of the row before
unfoldable pub reaction_range_checks : (ℕ → ℕ) → ℕ → ReactionPart → ReactionEnds → List Check
reaction_range_checks rows i row previous =
    range_checks rows 5 i field.UsePorts 9 row.uses previous.uses
    ++ (range_checks rows 5 i field.EffectPorts 10 row.effects previous.effects
    ++ (range_checks rows 5 i field.Actions 11 row.actions previous.actions
    ++ range_checks rows 5 i field.EnabledModes 12 row.enabled previous.enabled))

unfoldable pub reaction_row : Image → ℕ → ReactionPart → ReactionEnds → List Check
reaction_row m i row previous =
    reaction_owner_checks m i row
    ++ (effect_checks m.rows m.modes i row.reactor row.target
    ++ reaction_range_checks m.rows i row previous)

unfoldable pub reaction_checks : Image → ℕ → List Check
reaction_checks m i = reaction_row m i (m.reactions i) (reaction_ends_before m.reactions i)
