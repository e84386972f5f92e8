-- Every trigger, and every way, of an image whose levels rise leads to a reaction of the table on a higher level. Assumes nothing.
use Prim.Native.Nat.{ℕ, ◌<◌}
use native.Mathlib.Omega.{arith}
use Rattle.answers.proofs.Passed.{below, item}
use Rattle.checks.specs.Image.{Image}
use Rattle.rising.specs.Rising.{stands_on, effects_of, port_of, triggers_of, target_of, trigger_rising, port_rising, reaction_rising, rising_checks, LevelsRise}
use Rattle.rising.specs.Reach.{Triggers, Reaches, at_once, by_way}
use Rattle.rising.specs.Claims.{EveryTriggerRises, EveryWayRises, NeverItself}
use Rattle.rising.proofs.Settled.{settled}

module _ (m : Image) (h : LevelsRise m) where
  -- the target at each place
  there : (r k j : ℕ) → r < m.rows 5 → k < effects_of m r → j < triggers_of m (port_of m r k) → target_of m (port_of m r k) j < m.rows 5
  there r k j l u v = let s = settled m h.accepted in s.target_there (port_of m r k) j (s.port_there r k l u) v

  higher : (r k j : ℕ) → r < m.rows 5 → k < effects_of m r → j < triggers_of m (port_of m r k) → stands_on m r < stands_on m (target_of m (port_of m r k) j)
  unfolding rising_checks reaction_rising port_rising
  higher r k j l u v =
      let a = item (reaction_rising m) (m.rows 5) (record { is = h.rising }) r l in
      let b = item (λ i. port_rising m r (port_of m r i)) (effects_of m r) a k u in
      below (item (trigger_rising m r (port_of m r k)) (triggers_of m (port_of m r k)) b j v)

  pub trigger_rises : (r u : ℕ) → r < m.rows 5 → Triggers m r u → (u < m.rows 5) × (stands_on m r < stands_on m u)
  trigger_rises r u l t =
      rw (← t.target) (there r t.effect t.trigger l t.effect_there t.trigger_there, higher r t.effect t.trigger l t.effect_there t.trigger_there)

  pub way_rises : (r u : ℕ) → r < m.rows 5 → Reaches m r u → (u < m.rows 5) × (stands_on m r < stands_on m u)
  way_rises r u l (at_once t) = trigger_rises r u l t
  way_rises r u l (by_way {t = t} e w) =
      let a = trigger_rises r t l e in
      let b = way_rises t u a.0 w in
      (b.0, omega arith)

  pub not_itself : (r : ℕ) → r < m.rows 5 → Reaches m r r → ⊥
  not_itself r l w = let a = way_rises r r l w in omega arith

pub every_trigger_rises : EveryTriggerRises
every_trigger_rises m h = trigger_rises m h

pub every_way_rises : EveryWayRises
every_way_rises m h = way_rises m h

pub never_itself : NeverItself
never_itself m h = not_itself m h
