-- The test `others` tells exactly what a reaction reaches, for an image whose levels rise. Assumes nothing.
use Prim.Native.Nat.{ℕ, zero, suc, ◌+◌, ◌<◌, ◌≤◌}
use mathlib.Core.Bool.{Bool, true, false, true≢false, not, ◌&&◌, ◌||◌}
use mathlib.Core.Logic.{◌⊎◌, ◌↔◌, inl, inr, ⊎_elim}
use mathlib.Core.Path.{◌≡◌, refl, sym, ap}
use native.Mathlib.Decide.{dec_le}
use native.Mathlib.Omega.{arith}
use lib.Dec.{eqb}
use borrow.Author.Tests.{eqb-true, eq-eqb, ne_eqb}
use Rattle.checks.specs.Image.{Image}
use Rattle.rising.specs.Rising.{stands_on, effects_of, port_of, triggers_of, target_of, LevelsRise}
use Rattle.rising.specs.Reach.{Triggers, Reaches, at_once, by_way, some_below, reached_in, reached, others}
use Rattle.rising.specs.Claims.{ReachedIsClosure}
use Rattle.rising.proofs.Ways.{trigger_rises, way_rises, not_itself}

either : (a b : Bool) → a || b ≡ true → (a ≡ true) ⊎ (b ≡ true)
either true b e = inl refl
either false b e = inr e

left : (a b : Bool) → a ≡ true → a || b ≡ true
left true b e = refl
left false b e = absurd (true≢false (sym e))

right : (a b : Bool) → b ≡ true → a || b ≡ true
right true b e = refl
right false b e = e

-- a test that some number passes has such a number, and one that a number passes is passed
some_has : (f : ℕ → Bool) (n : ℕ) → some_below f n ≡ true → (k : ℕ) × (k < n) × (f k ≡ true)
unfolding some_below
some_has f zero e = absurd (true≢false (sym e))
some_has f (suc n) e =
    ⊎_elim (λ a. let x = some_has f n a in (x.0, omega arith, x.2)) (λ b. (n, omega arith, b)) (either (some_below f n) (f n) e)

has_some : (f : ℕ → Bool) (n k : ℕ) → k < n → f k ≡ true → some_below f n ≡ true
unfolding some_below
has_some f zero k l e = absurd (omega arith)
has_some f (suc n) k l e =
    let more = has_some f n k in
    elim (dec_le n k) [
      | yes g ↦ (let x : k ≡ n = omega arith in right (some_below f n) (f n) (rw x at e))
      | no g ↦ left (some_below f n) (f n) (more (omega arith) e)
    ]

module _ (m : Image) where
  -- reaction u is reached from target t in at most k steps more
  abbrev onward : ℕ → ℕ → ℕ → Bool
  onward k u t = eqb t u || reached_in m k t u

  abbrev by_port : ℕ → ℕ → ℕ → ℕ → Bool
  by_port k r u e = some_below (λ j. onward k u (target_of m (port_of m r e) j)) (triggers_of m (port_of m r e))

  -- a step by some port's trigger
  step : (k r u t : ℕ) → Triggers m r t → onward k u t ≡ true → reached_in m (suc k) r u ≡ true
  unfolding reached_in
  step k r u t d e =
      has_some (by_port k r u) (effects_of m r) d.effect d.effect_there
      (has_some (λ j. onward k u (target_of m (port_of m r d.effect) j)) (triggers_of m (port_of m r d.effect)) d.trigger d.trigger_there (rw d.target e))

  stepped : (k r u : ℕ) → reached_in m (suc k) r u ≡ true → (t : ℕ) × Triggers m r t × (onward k u t ≡ true)
  unfolding reached_in
  stepped k r u e =
      let a = some_has (by_port k r u) (effects_of m r) e in
      let b = some_has (λ j. onward k u (target_of m (port_of m r a.0) j)) (triggers_of m (port_of m r a.0)) a.2 in
      (target_of m (port_of m r a.0) b.0, record { effect = a.0; trigger = b.0; effect_there = a.1; trigger_there = b.1; target = refl }, b.2)

  -- what the test finds is reached
  sound : (k r u : ℕ) → reached_in m k r u ≡ true → Reaches m r u
  unfolding reached_in
  sound zero r u e = absurd (true≢false (sym e))
  sound (suc k) r u e =
      let s = stepped k r u e in
      ⊎_elim
      (λ q. at_once (rw (eqb-true s.0 u q) at s.1))
      (λ w. by_way s.1 (sound k s.0 u w))
      (either (eqb s.0 u) (reached_in m k s.0 u) s.2)

  module _ (h : LevelsRise m) where
    -- and what is reached it finds, with as many steps as there are levels between
    complete : (k r u : ℕ) → r < m.rows 5 → stands_on m u ≤ k + stands_on m r → Reaches m r u → reached_in m k r u ≡ true
    complete zero r u l e w = let a = way_rises m h r u l w in absurd (omega arith)
    complete (suc k) r u l e (at_once t) = step k r u u t (left (eqb u u) _ (eq-eqb u u refl))
    complete (suc k) r u l e (by_way {t = t} d w) =
        let a = trigger_rises m h r t l d in
        step k r u t d (right (eqb t u) _ (complete k t u a.0 (omega arith) w))

and_right : (a b : Bool) → a && b ≡ true → b ≡ true
and_right true b e = e
and_right false b e = absurd (true≢false (sym e))

and_both : (a b : Bool) → a ≡ true → b ≡ true → a && b ≡ true
and_both true b e f = f
and_both false b e f = absurd (true≢false (sym e))

module _ (m : Image) (h : LevelsRise m) (r u : ℕ) (l : r < m.rows 5) where
  reached_exactly : (reached m r u ≡ true) ↔ Reaches m r u
  reached_exactly = (sound m (stands_on m u) r u, complete m h (stands_on m u) r u l (omega arith))

  pub others_exactly : (others m r u ≡ true) ↔ Reaches m r u
  others_exactly = (
    λ e. reached_exactly.0 (and_right (not (eqb u r)) (reached m r u) e),
    λ w. and_both (not (eqb u r)) (reached m r u) (ap not (ne_eqb u r (λ q. not_itself m h r l (rw q at w)))) (reached_exactly.1 w),
  )

pub reached_is_closure : ReachedIsClosure
reached_is_closure m h = others_exactly m h
