-- The checks of a row of reactors: view.rs, the first row loop of `validate_enclave_const`. Assumes nothing.
use Rattle.std.specs.Prelude.{ℕ, ◌&&◌, List, [], ◌∷◌, ◌++◌, ltb, eqb, Option, Some, None, is_none}
use Rattle.range.specs.declared.IndexSpan.{IndexSpan}
use Rattle.range.specs.Range.{contains}
use Rattle.answers.specs.declared.Refusal.TheVariants.{OwnershipMismatch, InvalidBankInfo, StorageBoundExceeded}
use Rattle.answers.specs.Fields.{row_field}
use Rattle.answers.specs.declared.field.Field.TheVariants as field
use Rattle.answers.specs.Checks.{Check, need}
use Rattle.schema.specs.Indexes.{ModeIndex}
use Rattle.schema.specs.declared.index.BankInfoImage.{BankInfoImage}
use Rattle.schema.specs.declared.index.BindingKind.TheVariants.{StateInitializer}
use Rattle.schema.specs.declared.rows.ReactorImage.{ReactorImage}
use Rattle.schema.specs.declared.rows.ScopeImage.{ScopeImage}
use Rattle.checks.specs.Image.{Image}
use Rattle.checks.specs.Refs.{ref_to, span_checks, span_end, end_before}
use Rattle.row_checks.specs.Bindings.{binding_checks}

-- a slot check: row i of table t uses a slot below the bound
unfoldable pub slot_checks : ℕ → ℕ → ℕ → ℕ → List Check
slot_checks t bound i slot = need (ltb slot bound) (StorageBoundExceeded t i slot bound) ∷ []

-- the root scope is the reactor's own, and no mode's
unfoldable pub root_scope_checks : (ℕ → ℕ) → (ℕ → ScopeImage) → ℕ → ℕ → List Check
root_scope_checks rows scopes i v =
    ref_to rows 2 i field.RootScope 7 v
    ∷ need (eqb (scopes v).reactor.0 i && is_none (scopes v).mode) (OwnershipMismatch (row_field 2 i field.RootScope))
    ∷ []

-- the initial mode is there, and one of the reactor's
unfoldable pub initial_mode_checks : (ℕ → ℕ) → ℕ → IndexSpan → Option ModeIndex → List Check
initial_mode_checks rows i span None = []
initial_mode_checks rows i span (Some m) =
    ref_to rows 2 i field.InitialMode 6 m.0
    ∷ need (contains span.start span.len m.0) (OwnershipMismatch (row_field 2 i field.InitialMode))
    ∷ []

unfoldable pub bank_checks : ℕ → Option BankInfoImage → List Check
bank_checks i None = []
bank_checks i (Some b) = need (ltb b.index b.total) (InvalidBankInfo i b.index b.total) ∷ []

unfoldable pub reactor_row : Image → ℕ → ReactorImage → ℕ → List Check
reactor_row m i row previous =
    binding_checks m.rows m.bindings 2 i field.StateBinding StateInitializer row.state_binding.0
    ++ (slot_checks 2 m.state_slots i row.state_slot
    ++ (root_scope_checks m.rows m.scopes i row.root_scope.0
    ++ (span_checks m.rows 2 i field.Modes 6 row.modes.0.start row.modes.0.len previous
    ++ (initial_mode_checks m.rows i row.modes.0 row.initial_mode
    ++ bank_checks i row.bank))))

unfoldable pub reactor_checks : Image → ℕ → List Check
reactor_checks m i = reactor_row m i (m.reactors i) (end_before (λ j. span_end (m.reactors j).modes.0) i)
