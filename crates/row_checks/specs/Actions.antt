-- The checks of a row of actions: view.rs, the second row loop. Assumes nothing.
use Rattle.std.specs.Prelude.{ℕ, Bool, true, false, List, [], ◌∷◌, ◌++◌, Option, Some, None}
use Rattle.answers.specs.declared.Refusal.TheVariants.{BindingPresenceMismatch}
use Rattle.answers.specs.Fields.{row_field}
use Rattle.answers.specs.declared.field.Field.TheVariants as field
use Rattle.answers.specs.Checks.{Check, need}
use Rattle.schema.specs.Indexes.{BindingSlotIndex}
use Rattle.schema.specs.declared.index.BindingKind.TheVariants.{Action}
use Rattle.schema.specs.declared.rows.RequiredBindingImage.{RequiredBindingImage}
use Rattle.checks.specs.Image.{Image, ActionPart}
use Rattle.checks.specs.Refs.{ref_to, range_checks, range_end, end_before}
use Rattle.row_checks.specs.Bindings.{binding_checks}
use Rattle.row_checks.specs.Reactors.{slot_checks}

-- a standard action has a binding, a timer and a shutdown have none
unfoldable pub action_binding_checks : (ℕ → ℕ) → (ℕ → RequiredBindingImage) → ℕ → Bool → Option BindingSlotIndex → List Check
action_binding_checks rows bindings i true (Some b) = binding_checks rows bindings 3 i field.Binding Action b.0
action_binding_checks rows bindings i true None = need false (BindingPresenceMismatch (row_field 3 i field.Binding)) ∷ []
action_binding_checks rows bindings i false (Some b) = need false (BindingPresenceMismatch (row_field 3 i field.Binding)) ∷ []
action_binding_checks rows bindings i false None = []

unfoldable pub action_row : Image → ℕ → ActionPart → ℕ → List Check
action_row m i row previous =
    (ref_to m.rows 3 i field.Scope 7 row.scope ∷ [])
    ++ (slot_checks 3 m.action_slots i row.slot
    ++ (action_binding_checks m.rows m.bindings i row.standard row.binding
    ++ range_checks m.rows 3 i field.Triggers 8 row.triggers previous))

unfoldable pub action_checks : Image → ℕ → List Check
action_checks m i = action_row m i (m.actions i) (end_before (λ j. range_end (m.actions j).triggers) i)
