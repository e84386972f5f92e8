-- The passes of `validate_enclave_const` in their order, and after them that over deadlines, each with its items' checks. Assumes nothing.
use Rattle.std.specs.Prelude.{ℕ, List, [], ◌∷◌, ◌++◌}
use Rattle.answers.specs.declared.field.Field.TheVariants as field
use Rattle.answers.specs.declared.id.IdKind.TheVariants as kind
use Rattle.answers.specs.Checks.{Check, run}
use Rattle.checks.specs.Image.{Image}
use Rattle.checks.specs.Refs.{ref_to}
use Rattle.checks.specs.Identities.{id_check}
use Rattle.row_checks.specs.Reactors.{reactor_checks}
use Rattle.row_checks.specs.Actions.{action_checks}
use Rattle.row_checks.specs.Ports.{port_checks}
use Rattle.row_checks.specs.Reactions.{reaction_checks}
use Rattle.row_checks.specs.Modes.{mode_checks}
use Rattle.scope_checks.specs.Scopes.{scope_checks}
use Rattle.scope_checks.specs.Links.{cycle_checks}
use Rattle.list_checks.specs.ListTables.{index_checks, startup_checks, action_trigger_checks, port_trigger_checks, enabled_modes_checks, scope_list_checks, level_entry_checks, lifecycle_entry_checks, shutdown_reaction_checks, shutdown_action_checks}
use Rattle.list_checks.specs.Routes.{route_checks, binding_id_checks}
use Rattle.list_checks.specs.Deadlines.{deadline_checks}

-- a pass: how many items it has, and each item's checks
pub record Pass : Type 0 where
  pub items : (ℕ → ℕ) → ℕ
  pub checks : Image → ℕ → List Check

-- a pass over the rows of table t, and one with n items
abbrev pub over : ℕ → (Image → ℕ → List Check) → Pass
over t f = record { items = λ rows. rows t; checks = f }

abbrev pub times : ℕ → (Image → ℕ → List Check) → Pass
times n f = record { items = λ rows. n; checks = f }

abbrev pub root_checks : Image → ℕ → List Check
root_checks m i = ref_to m.rows 1 0 field.RootReactor 2 0 ∷ []

abbrev pub enclave_id_checks : Image → ℕ → List Check
enclave_id_checks m i = id_check m.text kind.Enclave 0 m.enclave_id ∷ []

-- root reactor, identity
unfoldable pub head_passes : List Pass
head_passes = times 1 root_checks ∷ times 1 enclave_id_checks ∷ []

-- the rows but for those of scopes
unfoldable pub table_passes : List Pass
table_passes =
    over 2 reactor_checks
    ∷ over 3 action_checks
    ∷ over 4 port_checks
    ∷ over 5 reaction_checks
    ∷ over 6 mode_checks
    ∷ []

-- the passes before the rows of scopes
unfoldable pub row_passes : List Pass
row_passes = head_passes ++ table_passes

-- the rows of scopes, and then parent cycles
unfoldable pub scope_passes : List Pass
scope_passes = over 7 scope_checks ∷ over 7 cycle_checks ∷ []

-- the lists of actions, ports and reactions
unfoldable pub reaction_list_passes : List Pass
reaction_list_passes =
    over 3 action_trigger_checks
    ∷ over 4 port_trigger_checks
    ∷ over 9 (index_checks 9 field.Port 4)
    ∷ over 10 (index_checks 10 field.Port 4)
    ∷ over 11 (index_checks 11 field.Action 3)
    ∷ over 12 (index_checks 12 field.Mode 6)
    ∷ over 5 enabled_modes_checks
    ∷ []

-- the lists of scopes
unfoldable pub scope_list_passes : List Pass
scope_list_passes =
    over 13 (index_checks 13 field.Scope 7)
    ∷ over 14 (index_checks 14 field.Action 3)
    ∷ over 15 (startup_checks 15)
    ∷ over 7 scope_list_checks
    ∷ []

-- every entry of the tables that ranges lead to
unfoldable pub entry_passes : List Pass
entry_passes =
    over 8 (level_entry_checks 8)
    ∷ over 16 (level_entry_checks 16)
    ∷ over 17 (lifecycle_entry_checks 17)
    ∷ over 18 (lifecycle_entry_checks 18)
    ∷ []

-- the lists of the enclave itself, routes, bindings and deadlines
unfoldable pub enclave_list_passes : List Pass
enclave_list_passes =
    over 19 (startup_checks 19)
    ∷ over 20 (startup_checks 20)
    ∷ over 21 shutdown_reaction_checks
    ∷ over 22 shutdown_action_checks
    ∷ over 23 route_checks
    ∷ over 24 binding_id_checks
    ∷ over 25 deadline_checks
    ∷ []

-- the passes after parent cycles
unfoldable pub list_passes : List Pass
list_passes = reaction_list_passes ++ (scope_list_passes ++ (entry_passes ++ enclave_list_passes))

-- the whole order
unfoldable pub passes : List Pass
passes = row_passes ++ (scope_passes ++ list_passes)

-- a pass's checks, item by item
unfoldable pub pass_checks : Image → Pass → List Check
pass_checks m f = run (f.checks m) 0 (f.items m.rows)

-- the checks of passes, one after the other
unfoldable pub checks_of : Image → List Pass → List Check
checks_of m [] = []
checks_of m (f ∷ fs) = pass_checks m f ++ checks_of m fs

unfoldable pub enclave_checks : Image → List Check
enclave_checks m = checks_of m passes

-- the checks before parent cycles
abbrev pub checks_before_parents : Image → List Check
checks_before_parents m = checks_of m row_passes ++ run (scope_checks m) 0 (m.rows 7)
