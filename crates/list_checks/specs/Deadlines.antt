-- The checks of deadlines: document 02, Wish 12. Assumes nothing.
use Rattle.std.specs.Prelude.{◌-◌, ℕ, not, List, [], ◌∷◌, ◌++◌}
use Rattle.answers.specs.declared.Refusal.TheVariants.{ZeroDeadline}
use Rattle.answers.specs.declared.field.Field.TheVariants as field
use Rattle.answers.specs.Checks.{Check, need}
use Rattle.checks.specs.Image.{Image}
use Rattle.checks.specs.Refs.{ref_to}
use Rattle.checks.specs.Lists.{after_first}
use Rattle.list_checks.specs.ListTables.{index_order_checks}

-- a deadline's reaction is there, and above the reaction of the row before; its nanoseconds are not zero
unfoldable pub deadline_checks : Image → ℕ → List Check
deadline_checks m i =
    (ref_to m.rows 25 i field.Reaction 5 (m.deadlines i).reaction ∷ [])
    ++ (after_first i (index_order_checks 25 i (m.deadlines i).reaction (m.deadlines (i - 1)).reaction)
    ++ (need (not (m.deadlines i).is_zero) (ZeroDeadline i) ∷ []))
