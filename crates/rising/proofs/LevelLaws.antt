-- The first trigger of a port of an accepted image decides whether a reaction stands below all of them. Assumes nothing.
use Prim.Native.Nat.{ℕ, zero, suc, ◌+◌, ◌<◌, ◌≤◌}
use mathlib.Core.Path.{◌≡◌, refl, ◌∙◌, sym, ap}
use mathlib.Core.List.{List}
use native.Mathlib.Omega.{arith}
use borrow.Author.Tests.{lt-ltb, le-ltb}
use Rattle.std.specs.Prelude.{Err}
use Rattle.answers.specs.declared.Refusal.{Refusal}
use Rattle.answers.specs.declared.Refusal.TheVariants.{LevelNotRising}
use Rattle.answers.specs.Checks.{Check, first, run, passed}
use Rattle.answers.proofs.Laws.{first_past, first_stops}
use Rattle.answers.proofs.Loops.{Remaining}
use Rattle.answers.proofs.Tests.{loop-stop}
use Rattle.schema.specs.declared.entries.LevelReactionImage.{LevelReactionImage}
use Rattle.checks.specs.Image.{Image}
use Rattle.enclave.specs.Passes.{enclave_checks}
use Rattle.rising.specs.Rising.{stands_on, effects_of, port_of, triggers_of, target_of, trigger_rising, port_rising, reaction_rising}
use Rattle.rising.proofs.Settled.{settled}

-- a run whose items pass passes, and one whose first item is refused is refused so
run_passes : (f : ℕ → List Check) (i n : ℕ) → ((k : ℕ) → i ≤ k → k < i + n → first (f k) ≡ passed) → first (run f i n) ≡ passed
unfolding run first
run_passes f i zero e = refl
run_passes f i (suc n) e = first_past (f i) _ (e i (omega arith) (omega arith)) ∙ run_passes f (suc i) n (λ k l u. e k (omega arith) (omega arith))

run_refused : (f : ℕ → List Check) (n : ℕ) {r : Refusal} → 0 < n → first (f 0) ≡ Err r → first (run f 0 n) ≡ Err r
unfolding run
run_refused f zero l e = absurd (omega arith)
run_refused f (suc n) l e = first_stops (f 0) _ e

-- a loop over the ports of a reaction that is stopped at place k of n
pub effects_refused :
    (m : Image) (r : ℕ) {k n : ℕ} {x : Refusal} → Remaining (λ i. port_rising m r (port_of m r i)) k n → n ≡ effects_of m r → k < n
    → first (port_rising m r (port_of m r k)) ≡ Err x → first (reaction_rising m r) ≡ Err x
unfolding reaction_rising
effects_refused m r w e l d = sym (loop-stop (λ i. port_rising m r (port_of m r i)) w e l (record { is = sym d }) refl).is

module _ (m : Image) (h : first (enclave_checks m) ≡ passed) (r q : ℕ) (there : q < m.rows 4) where
  -- the first trigger of the port
  abbrev pub lowest : LevelReactionImage
  lowest = m.levels 8 (m.ports q).triggers.start

  pub none_triggered : triggers_of m q ≡ 0 → first (port_rising m r q) ≡ passed
  unfolding port_rising run first
  none_triggered e = rw e refl

  module _ (some : 0 < triggers_of m q) where
    at_first : (m.ports q).triggers.start + 0 ≡ (m.ports q).triggers.start
    at_first = omega arith

    is_target : target_of m q 0 ≡ lowest.reaction.0
    is_target = ap (λ i. (m.levels 8 i).reaction.0) at_first

    is_level : stands_on m (target_of m q 0) ≡ lowest.level
    is_level = (settled m h).target_level q 0 there some ∙ ap (λ i. (m.levels 8 i).level) at_first

    above_passes : stands_on m r < lowest.level → (j : ℕ) → j < triggers_of m q → first (trigger_rising m r q j) ≡ passed
    unfolding first
    above_passes l j u =
        let a = (settled m h).first_lowest q j there u in
        let b = is_level in
        rw (lt-ltb (stands_on m r) (stands_on m (target_of m q j)) (omega arith)) refl

    pub first_above : stands_on m r < lowest.level → first (port_rising m r q) ≡ passed
    unfolding port_rising
    first_above l = run_passes (trigger_rising m r q) 0 (triggers_of m q) (λ j a u. above_passes l j (omega arith))

    not_above : lowest.level ≤ stands_on m r → first (trigger_rising m r q 0) ≡ Err (LevelNotRising r lowest.reaction.0)
    unfolding first
    not_above l = rw (← is_target, le-ltb (stands_on m r) (stands_on m (target_of m q 0)) (rw is_level l)) refl

    pub first_not_above : lowest.level ≤ stands_on m r → first (port_rising m r q) ≡ Err (LevelNotRising r lowest.reaction.0)
    unfolding port_rising
    first_not_above l = run_refused (trigger_rising m r q) (triggers_of m q) some (not_above l)
