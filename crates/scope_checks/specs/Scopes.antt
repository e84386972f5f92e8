-- The checks of a row of scopes: view.rs, the sixth row loop. Assumes nothing.
use Rattle.std.specs.Prelude.{ℕ, ◌&&◌, List, [], ◌∷◌, ◌++◌, eqb, Option, Some, None}
use Rattle.answers.specs.declared.Refusal.TheVariants.{OwnershipMismatch}
use Rattle.answers.specs.Fields.{row_field}
use Rattle.answers.specs.declared.field.Field.TheVariants as field
use Rattle.answers.specs.Checks.{Check, need}
use Rattle.schema.specs.Indexes.{ScopeIndex}
use Rattle.schema.specs.Indexes.{ModeIndex}
use Rattle.schema.specs.declared.rows.ModeImage.{ModeImage}
use Rattle.schema.specs.declared.rows.ScopeImage.{ScopeImage}
use Rattle.checks.specs.Image.{Image}
use Rattle.checks.specs.Refs.{ref_to}
use Rattle.scope_checks.specs.declared.ends.ScopeEnds.{ScopeEnds}
use Rattle.scope_checks.specs.Ends.{ends_before, scope_range_checks}

unfoldable pub parent_checks : (ℕ → ℕ) → ℕ → Option ScopeIndex → List Check
parent_checks rows i None = []
parent_checks rows i (Some s) = ref_to rows 7 i field.Parent 7 s.0 ∷ []

-- the scope's mode is there, and names this scope and its reactor
unfoldable pub scope_mode_checks : (ℕ → ℕ) → (ℕ → ModeImage) → ℕ → ℕ → Option ModeIndex → List Check
scope_mode_checks rows modes i reactor None = []
scope_mode_checks rows modes i reactor (Some m) =
    ref_to rows 7 i field.Mode 6 m.0
    ∷ need (eqb (modes m.0).scope.0 i && eqb (modes m.0).reactor.0 reactor) (OwnershipMismatch (row_field 7 i field.Mode))
    ∷ []

unfoldable pub scope_owner_checks : Image → ℕ → ScopeImage → List Check
scope_owner_checks m i row =
    (ref_to m.rows 7 i field.Reactor 2 row.reactor.0 ∷ [])
    ++ (parent_checks m.rows i row.parent
    ++ scope_mode_checks m.rows m.modes i row.reactor.0 row.mode)

-- row i against the running ends
unfoldable pub scope_row_checks : Image → ℕ → ScopeImage → ScopeEnds → List Check
scope_row_checks m i row ends = scope_owner_checks m i row ++ scope_range_checks m.rows i row ends

unfoldable pub scope_checks : Image → ℕ → List Check
scope_checks m i = scope_row_checks m i (m.scopes i) (ends_before m.scopes i)
