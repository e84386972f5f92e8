-- What each 12 has that tells the rows of its table, and each refusal that is neither a 12 nor a slot refusal, the refusals of an enclave's
-- passes have. Assumes nothing.
use Prim.Native.Nat.{ℕ}
use mathlib.Core.Bool.{Bool, true, false}
use mathlib.Core.Path.{◌≡◌, refl}
use mathlib.Core.List.{List, ◌∷◌}
use lib.Dec.{eqb}
use lib.ListN.{drop, get_or}
use Rattle.std.specs.Prelude.{Option, Some, None}
use Rattle.answers.specs.declared.Refusal.{Refusal}
use Rattle.answers.specs.declared.Refusal.TheVariants.{ReferenceOutOfBounds}
use Rattle.answers.specs.declared.field.RowField.{RowField}
use Rattle.answers.specs.Numbers.{numbers}
use Rattle.answers.specs.Checks.{Check, need}
use Rattle.answers.specs.Slots.{is_slot}
use Rattle.answers.proofs.Each.{Each, none, more, each-append, each-run, each-cond}
use Rattle.schema.specs.Indexes.{ModeIndex}
use Rattle.schema.specs.Indexes.{ScopeIndex}
use Rattle.schema.specs.Indexes.{BindingSlotIndex}
use Rattle.schema.specs.declared.index.BankInfoImage.{BankInfoImage}
use Rattle.range.specs.declared.IndexSpan.{IndexSpan}
use Rattle.checks.specs.Image.{Image}
use Rattle.row_checks.specs.Bindings.{binding_checks}
use Rattle.row_checks.specs.Reactors.{initial_mode_checks, bank_checks}
use Rattle.row_checks.specs.Actions.{action_binding_checks}
use Rattle.row_checks.specs.Reactions.{effect_checks}
use Rattle.scope_checks.specs.Scopes.{parent_checks, scope_mode_checks}
use Rattle.enclave.specs.Passes.{passes, pass_checks, checks_of}
use Rattle.enclave.proofs.Opened.{the_passes, the_rows, the_lists, the_parts}

-- the refusal's number is 12
abbrev pub is_missing : Refusal → Bool
is_missing r = eqb (get_or (numbers r) 0 0) 12

-- no refusal of the list is a 12
abbrev pub WithoutMissing : List Check → Type 0
WithoutMissing cs = Each (λ r. is_missing r ≡ false) cs

module _ (m : Image) (P : Refusal → Type 0)
    (absent : (at : RowField) (g v k : ℕ) → k ≡ m.rows g → P (ReferenceOutOfBounds at g v k))
    (other : (r : Refusal) → is_slot r ≡ false → is_missing r ≡ false → P r) where
  -- a 12 that tells the rows of its table, and another refusal that is no slot refusal, before what follows
  counted : {b : Bool} {at : RowField} {g v k : ℕ} {cs : List Check} → k ≡ m.rows g → Each P cs → Each P (need b (ReferenceOutOfBounds at g v k) ∷ cs)
  counted e h = more (absent _ _ _ _ e) h

  plain : {b : Bool} {r : Refusal} {cs : List Check} → is_slot r ≡ false → is_missing r ≡ false → Each P cs → Each P (need b r ∷ cs)
  plain e f h = more (other _ e f) h

  -- the checks of optional fields
  pub each_initial_mode : (i : ℕ) (span : IndexSpan) (mode : Option ModeIndex) → Each P (initial_mode_checks m.rows i span mode)
  unfolding initial_mode_checks is_slot numbers
  each_initial_mode i span None = none
  each_initial_mode i span (Some j) = counted refl (plain refl refl none)

  pub each_bank : (i : ℕ) (b : Option BankInfoImage) → Each P (bank_checks i b)
  unfolding bank_checks is_slot numbers
  each_bank i None = none
  each_bank i (Some b) = plain refl refl none

  pub each_action_binding : (i : ℕ) (standard : Bool) (b : Option BindingSlotIndex) → Each P (action_binding_checks m.rows m.bindings i standard b)
  unfolding action_binding_checks binding_checks is_slot numbers
  each_action_binding i true (Some b) = counted refl (plain refl refl none)
  each_action_binding i true None = plain refl refl none
  each_action_binding i false (Some b) = plain refl refl none
  each_action_binding i false None = none

  each_effect : (i reactor : ℕ) (mode : Option ModeIndex) → Each P (effect_checks m.rows m.modes i reactor mode)
  unfolding effect_checks is_slot numbers
  each_effect i reactor None = none
  each_effect i reactor (Some j) = counted refl (plain refl refl none)

  each_parent : (i : ℕ) (s : Option ScopeIndex) → Each P (parent_checks m.rows i s)
  unfolding parent_checks is_slot numbers
  each_parent i None = none
  each_parent i (Some s) = counted refl none

  each_scope_mode : (i reactor : ℕ) (mode : Option ModeIndex) → Each P (scope_mode_checks m.rows m.modes i reactor mode)
  unfolding scope_mode_checks is_slot numbers
  each_scope_mode i reactor None = none
  each_scope_mode i reactor (Some j) = counted refl (plain refl refl none)

  -- the passes after those over reactors and actions
  pub each_other : Each P (checks_of m (drop 4 passes))
  unfolding checks_of pass_checks the_passes the_rows the_lists the_parts is_slot numbers
  each_other = search (counted, plain, none, each-append, each-run, each-cond, each_effect, each_parent, each_scope_mode) depth 60 fits 10000
