-- Acceptance is passing without the slot checks, with every slot below its bound. Assumes nothing.
use Prim.Native.Nat.{ℕ, zero, suc, ◌+◌, ◌<◌, ◌≤◌}
use mathlib.Core.Bool.{true}
use mathlib.Core.Path.{◌≡◌, refl, ◌∙◌, sym}
use mathlib.Core.List.{List}
use native.Mathlib.Decide.{dec_le}
use native.Mathlib.Omega.{arith}
use lib.Dec.{ltb}
use borrow.Author.Tests.{ltb-true, lt-ltb}
use Rattle.answers.specs.Checks.{Check, run}
use Rattle.answers.specs.Slots.{slots_hold}
use Rattle.answers.proofs.Slots.{passes-without, passes-with, slots-append}
use Rattle.checks.specs.Image.{Image}
use Rattle.row_checks.specs.Reactors.{reactor_checks}
use Rattle.row_checks.specs.Actions.{action_checks}
use Rattle.enclave.specs.Passes.{enclave_checks}
use Rattle.larger_bounds.specs.Images.{SlotsBelow, AcceptedExactly}
use Rattle.identity.proofs.Tests.{both}
use Rattle.larger_bounds.proofs.SlotTests.{reactor-slots, action-slots, enclave-slots}

-- the slot checks of a run hold exactly where those of each of its lists do
run-each : (f : ℕ → List Check) (i n : ℕ) → slots_hold (run f i n) ≡ true → (k : ℕ) → i ≤ k → k < i + n → slots_hold (f k) ≡ true
unfolding run
run-each f i zero h k l u = absurd (omega arith)
run-each f i (suc n) h k l u =
    let e = both _ _ (sym (slots-append (f i) (run f (suc i) n)) ∙ h) in
    elim (dec_le k i) [ yes g ↦ (let x : k ≡ i = omega arith in rw x e.0) | no g ↦ run-each f (suc i) n e.1 k (omega arith) (omega arith) ]

each-run : (f : ℕ → List Check) (i n : ℕ) → ((k : ℕ) → i ≤ k → k < i + n → slots_hold (f k) ≡ true) → slots_hold (run f i n) ≡ true
unfolding run slots_hold
each-run f i zero h = refl
each-run f i (suc n) h =
    slots-append (f i) (run f (suc i) n)
    ∙ rw (h i (omega arith) (omega arith), each-run f (suc i) n (λ k l u. h k (omega arith) (omega arith)))

-- n rows whose slots are below the bound
rows-below :
    (f : ℕ → List Check) (slot : ℕ → ℕ) (bound n : ℕ) → ((i : ℕ) → slots_hold (f i) ≡ ltb (slot i) bound)
    → slots_hold (run f 0 n) ≡ true → (i : ℕ) → i < n → slot i < bound
rows-below f slot bound n e h i l = ltb-true (slot i) bound (sym (e i) ∙ run-each f 0 n h i (omega arith) (omega arith))

below_rows :
    (f : ℕ → List Check) (slot : ℕ → ℕ) (bound n : ℕ) → ((i : ℕ) → slots_hold (f i) ≡ ltb (slot i) bound)
    → ((i : ℕ) → i < n → slot i < bound) → slots_hold (run f 0 n) ≡ true
below_rows f slot bound n e h = each-run f 0 n (λ i l u. e i ∙ lt-ltb (slot i) bound (h i (omega arith)))

module _ (m : Image) where
  below-slots : SlotsBelow m → slots_hold (enclave_checks m) ≡ true
  below-slots b =
      enclave-slots m
      ∙ rw (
        below_rows (reactor_checks m) (λ i. (m.reactors i).state_slot) m.state_slots (m.rows 2) (reactor-slots m) b.0,
        below_rows (action_checks m) (λ i. (m.actions i).slot) m.action_slots (m.rows 3) (action-slots m) b.1,
      )

  slots-below : slots_hold (enclave_checks m) ≡ true → SlotsBelow m
  slots-below h =
      let e = both _ _ (sym (enclave-slots m) ∙ h) in (
        rows-below (reactor_checks m) (λ i. (m.reactors i).state_slot) m.state_slots (m.rows 2) (reactor-slots m) e.0,
        rows-below (action_checks m) (λ i. (m.actions i).slot) m.action_slots (m.rows 3) (action-slots m) e.1,
      )

pub accepted-exactly : AcceptedExactly
accepted-exactly m = (
  (λ e. let h = passes-without (enclave_checks m) e in (h.0, slots-below m h.1)),
  (λ h. passes-with (enclave_checks m) h.0 (below-slots m h.1)),
)
