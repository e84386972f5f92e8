-- The checks of a row of ports: view.rs, the third row loop. Assumes nothing.
use Rattle.std.specs.Prelude.{ℕ, List, [], ◌∷◌, ◌++◌}
use Rattle.answers.specs.declared.field.Field.TheVariants as field
use Rattle.answers.specs.Checks.{Check}
use Rattle.schema.specs.declared.index.BindingKind.TheVariants.{Port}
use Rattle.schema.specs.declared.rows.PortImage.{PortImage}
use Rattle.checks.specs.Image.{Image}
use Rattle.checks.specs.Refs.{ref_to, range_checks, range_end, end_before}
use Rattle.row_checks.specs.Bindings.{binding_checks}

unfoldable pub port_row : Image → ℕ → PortImage → ℕ → List Check
port_row m i row previous =
    binding_checks m.rows m.bindings 4 i field.Binding Port row.binding.0
    ++ ((ref_to m.rows 4 i field.Scope 7 row.scope.0 ∷ [])
    ++ range_checks m.rows 4 i field.Triggers 8 row.triggers previous)

unfoldable pub port_checks : Image → ℕ → List Check
port_checks m i = port_row m i (m.ports i) (end_before (λ j. range_end (m.ports j).triggers) i)
