-- The checks of a row of modes: view.rs, the fifth row loop. Assumes nothing.
use Rattle.std.specs.Prelude.{ℕ, Bool, false, List, [], ◌∷◌, eqb, Option, Some, None}
use Rattle.range.specs.Range.{contains}
use Rattle.answers.specs.declared.Refusal.TheVariants.{OwnershipMismatch}
use Rattle.answers.specs.Fields.{row_field}
use Rattle.answers.specs.declared.field.Field.TheVariants as field
use Rattle.answers.specs.Checks.{Check, need}
use Rattle.schema.specs.Indexes.{ModeIndex}
use Rattle.schema.specs.declared.rows.ModeImage.{ModeImage}
use Rattle.schema.specs.declared.rows.ReactorImage.{ReactorImage}
use Rattle.schema.specs.declared.rows.ScopeImage.{ScopeImage}
use Rattle.checks.specs.Image.{Image}
use Rattle.checks.specs.Refs.{ref_to}

abbrev pub is_mode : ℕ → Option ModeIndex → Bool
is_mode i None = false
is_mode i (Some m) = eqb m.0 i

-- the scope is the mode's reactor's, and the mode's own; the reactor's span holds the mode
unfoldable pub mode_owner_checks : ℕ → ModeImage → ReactorImage → ScopeImage → List Check
mode_owner_checks i row reactor scope =
    need (eqb scope.reactor.0 row.reactor.0) (OwnershipMismatch (row_field 6 i field.ScopeReactor))
    ∷ need (is_mode i scope.mode) (OwnershipMismatch (row_field 6 i field.ScopeMode))
    ∷ need (contains reactor.modes.0.start reactor.modes.0.len i) (OwnershipMismatch (row_field 6 i field.ReactorModes))
    ∷ []

unfoldable pub mode_row : Image → ℕ → ModeImage → List Check
mode_row m i row =
    ref_to m.rows 6 i field.Reactor 2 row.reactor.0
    ∷ ref_to m.rows 6 i field.Scope 7 row.scope.0
    ∷ mode_owner_checks i row (m.reactors row.reactor.0) (m.scopes row.scope.0)

unfoldable pub mode_checks : Image → ℕ → List Check
mode_checks m i = mode_row m i (m.modes i)
