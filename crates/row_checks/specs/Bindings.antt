-- A row's required binding: it is there, and of the kind that the row wants. Assumes nothing.
use Rattle.std.specs.Prelude.{ℕ, Bool, List, [], ◌∷◌, eqb}
use Rattle.answers.specs.declared.Refusal.TheVariants.{BindingKindMismatch}
use Rattle.answers.specs.Fields.{row_field}
use Rattle.answers.specs.declared.field.Field.{Field}
use Rattle.answers.specs.Checks.{Check, need}
use Rattle.schema.specs.declared.index.BindingKind.{BindingKind}
use Rattle.schema.specs.declared.index.BindingKind.TheVariants.{StateInitializer, Reaction, Port, Action}
use Rattle.schema.specs.declared.rows.RequiredBindingImage.{RequiredBindingImage}
use Rattle.checks.specs.Refs.{ref_to}

abbrev pub kind_number : BindingKind → ℕ
kind_number StateInitializer = 0
kind_number Reaction = 1
kind_number Port = 2
kind_number Action = 3

abbrev pub same_kind : BindingKind → BindingKind → Bool
same_kind a b = eqb (kind_number a) (kind_number b)

-- row i of table t names binding v in the field f, which must be of the given kind
unfoldable pub binding_checks : (ℕ → ℕ) → (ℕ → RequiredBindingImage) → ℕ → ℕ → Field → BindingKind → ℕ → List Check
binding_checks rows bindings t i f kind v =
    ref_to rows t i f 24 v ∷ need (same_kind (bindings v).kind kind) (BindingKindMismatch (row_field t i f)) ∷ []
