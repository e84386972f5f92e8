-- The slot checks of each pass: a reactor's, an action's, and in the other passes none. Assumes nothing.
use Prim.Native.Nat.{ℕ}
use mathlib.Core.Bool.{true, false, ◌&&◌, and-true}
use mathlib.Core.Path.{◌≡◌, refl, ◌∙◌, ap}
use mathlib.Core.List.{List, ◌∷◌}
use lib.Dec.{ltb}
use lib.ListN.{drop}
use Rattle.answers.specs.Numbers.{numbers}
use Rattle.answers.specs.declared.Refusal.{Refusal}
use Rattle.answers.specs.declared.Refusal.TheVariants.{ReferenceOutOfBounds}
use Rattle.answers.specs.declared.field.RowField.{RowField}
use Rattle.answers.specs.Checks.{Check, run}
use Rattle.answers.specs.Slots.{is_slot, slots_hold}
use Rattle.answers.proofs.Slots.{slots-append}
use Rattle.answers.proofs.Each.{Each, none, more, each-append, each-run}
use Rattle.checks.specs.Image.{Image}
use Rattle.row_checks.specs.Reactors.{reactor_checks}
use Rattle.row_checks.specs.Actions.{action_binding_checks, action_checks}
use Rattle.enclave.specs.Passes.{Pass, passes, over, times, root_checks, enclave_id_checks, pass_checks, checks_of, enclave_checks}
use Rattle.enclave.proofs.Opened.{the_passes, the_rows, the_lists, the_parts}
use Rattle.enclave.proofs.EachPass.{is_missing, each_initial_mode, each_bank, each_action_binding, each_other}

-- the refusal is no slot refusal, and none of a list's is one
abbrev NoSlot : Refusal → Type 0
NoSlot r = is_slot r ≡ false

abbrev Plain : List Check → Type 0
Plain cs = Each NoSlot cs

plain-holds : {cs : List Check} → Plain cs → slots_hold cs ≡ true
unfolding slots_hold
plain-holds none = refl
plain-holds (more e h) = rw e (plain-holds h)

module _ (m : Image) where
  absent : (at : RowField) (g v k : ℕ) → k ≡ m.rows g → NoSlot (ReferenceOutOfBounds at g v k)
  unfolding is_slot numbers
  absent at g v k e = refl

  other : (r : Refusal) → is_slot r ≡ false → is_missing r ≡ false → NoSlot r
  other r e f = e

  -- the passes after those over reactors and actions
  others-plain : Plain (checks_of m (drop 4 passes))
  others-plain = each_other m NoSlot absent other

  -- what is left of the slot checks: one test for each reactor and each action
  pub reactor-slots : (i : ℕ) → slots_hold (reactor_checks m i) ≡ ltb (m.reactors i).state_slot m.state_slots
  unfolding the_rows the_parts is_slot numbers slots_hold
  reactor-slots i =
      let row = m.reactors i in
      ap (ltb row.state_slot m.state_slots &&◌) (plain-holds (each-append (each_initial_mode m NoSlot absent other i row.modes.0 row.initial_mode) (each_bank m NoSlot absent other i row.bank)))
      ∙ and-true _

  pub action-slots : (i : ℕ) → slots_hold (action_checks m i) ≡ ltb (m.actions i).slot m.action_slots
  unfolding the_rows the_parts is_slot numbers slots_hold
  action-slots i =
      let row = m.actions i in
      ap (ltb row.slot m.action_slots &&◌) (slots-append (action_binding_checks m.rows m.bindings i row.standard row.binding) _ ∙ rw (plain-holds (each_action_binding m NoSlot absent other i row.standard row.binding)))
      ∙ and-true _

  pass-slots : (f : Pass) (fs : List Pass) → slots_hold (checks_of m (f ∷ fs)) ≡ (slots_hold (pass_checks m f) && slots_hold (checks_of m fs))
  unfolding checks_of
  pass-slots f fs = slots-append (pass_checks m f) (checks_of m fs)

  pass-plain : (f : Pass) (fs : List Pass) → ((i : ℕ) → Plain (f.checks m i)) → slots_hold (checks_of m (f ∷ fs)) ≡ slots_hold (checks_of m fs)
  unfolding pass_checks
  pass-plain f fs h = pass-slots f fs ∙ rw (plain-holds (each-run h 0 (f.items m.rows)))

  pub enclave-slots : slots_hold (enclave_checks m) ≡ (slots_hold (run (reactor_checks m) 0 (m.rows 2)) && slots_hold (run (action_checks m) 0 (m.rows 3)))
  unfolding enclave_checks the_passes pass_checks the_lists is_slot numbers
  enclave-slots =
      pass-plain (times 1 root_checks) (drop 1 passes) (λ i. more refl none)
      ∙ pass-plain (times 1 enclave_id_checks) (drop 2 passes) (λ i. more refl none)
      ∙ pass-slots (over 2 reactor_checks) (drop 3 passes)
      ∙ ap (slots_hold (run (reactor_checks m) 0 (m.rows 2)) &&◌) (pass-slots (over 3 action_checks) (drop 4 passes) ∙ rw (plain-holds others-plain) (and-true _))
