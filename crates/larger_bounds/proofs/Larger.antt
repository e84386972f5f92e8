-- With larger bounds only the slot checks of reactors and actions change, and none that held fails. Assumes nothing.
use Prim.Native.Nat.{ℕ, ◌≤◌}
use mathlib.Core.Bool.{true}
use mathlib.Core.Path.{◌≡◌, refl}
use mathlib.Core.List.{List, ◌∷◌}
use native.Mathlib.Omega.{arith}
use lib.Dec.{ltb}
use lib.ListN.{drop}
use borrow.Author.Tests.{ltb-true, lt-ltb}
use Rattle.answers.proofs.Looser.{Looser, same, slot, looser-same, looser-append, looser-run, looser-stays}
use Rattle.checks.specs.Image.{Image}
use Rattle.row_checks.specs.Reactors.{reactor_checks}
use Rattle.row_checks.specs.Actions.{action_checks}
use Rattle.enclave.specs.Passes.{Pass, passes, pass_checks, checks_of, enclave_checks}
use Rattle.larger_bounds.specs.Images.{with_bounds, LargerBounds, SameLinks}
use Rattle.enclave.proofs.Opened.{the_passes, the_rows, the_lists, the_parts}

larger : (k : ℕ) {a b : ℕ} → a ≤ b → ltb k a ≡ true → ltb k b ≡ true
larger k {a} {b} h e = lt-ltb k b (omega (arith, ltb-true k a e))

module _ (m : Image) (state action : ℕ) where
  abbrev looser : Image
  looser = with_bounds m state action

  reactor-looser : (i : ℕ) → m.state_slots ≤ state → Looser (reactor_checks m i) (reactor_checks looser i)
  unfolding the_rows the_parts
  reactor-looser i h = same (same (slot (larger _ h) (looser-same _)))

  action-looser : (i : ℕ) → m.action_slots ≤ action → Looser (action_checks m i) (action_checks looser i)
  unfolding the_rows the_parts
  action-looser i h = same (slot (larger _ h) (looser-same _))

  -- pass by pass
  pass-looser :
      (f : Pass) (fs : List Pass) → ((i : ℕ) → Looser (f.checks m i) (f.checks looser i))
      → Looser (checks_of m fs) (checks_of looser fs) → Looser (checks_of m (f ∷ fs)) (checks_of looser (f ∷ fs))
  unfolding checks_of pass_checks
  pass-looser f fs h l = looser-append (looser-run (f.checks m) (f.checks looser) h 0 (f.items m.rows)) l

  -- the passes after those over reactors and actions look at no bound
  others_same : Looser (checks_of m (drop 4 passes)) (checks_of looser (drop 4 passes))
  unfolding checks_of pass_checks the_passes the_rows the_lists
  others_same = looser-same _

  pub enclave-looser : m.state_slots ≤ state → m.action_slots ≤ action → Looser (enclave_checks m) (enclave_checks looser)
  unfolding enclave_checks the_passes the_lists
  enclave-looser h g =
      pass-looser _ _ (λ i. looser-same _)
      (pass-looser _ _ (λ i. looser-same _)
      (pass-looser _ _ (λ i. reactor-looser i h)
      (pass-looser _ _ (λ i. action-looser i g) others_same)))

pub larger-bounds : LargerBounds
larger-bounds m state action h g = looser-stays (enclave-looser m state action h g)

pub same-links : SameLinks
same-links m state action = refl
