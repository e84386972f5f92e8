-- Levels still to climb fall from a reaction to its ports' reactions: the walk's measure. Assumes nothing.
use Prim.Native.Nat.{ℕ, suc, ◌+◌, ◌-◌, ◌*◌, ◌<◌}
use mathlib.Core.Bool.{Bool, true, false, cond}
use mathlib.Core.Path.{◌≡◌, refl}
use native.Mathlib.Omega.{arith}
use lib.Dec.{eqb}
use borrow.Author.Tests.{eqb-false, ne_eqb}
use Rattle.checks.specs.Image.{Image}
use Rattle.accepted.specs.Totals.{total}
use Rattle.accepted.proofs.Totals.{total_has}
use Rattle.rising.specs.Rising.{stands_on, effects_of, port_of, triggers_of, target_of, LevelsRise}
use Rattle.rising.specs.Reach.{Triggers}
use Rattle.rising.proofs.Settled.{settled}
use Rattle.rising.proofs.Ways.{trigger_rises}

-- no level of a reaction is as high as this
unfoldable pub top_of : Image → ℕ
top_of m = total (λ i. suc (stands_on m i)) (m.rows 5)

-- what is left of it above reaction r, and above the reactions of port q
unfoldable pub climb : Image → ℕ → ℕ
climb m r = 2 * (top_of m - stands_on m r)

unfoldable pub port_climb : Image → ℕ → ℕ
port_climb m q = cond (eqb (triggers_of m q) 0) 0 (climb m (target_of m q 0) + 1)

below_top : (m : Image) (r : ℕ) → r < m.rows 5 → stands_on m r < top_of m
unfolding top_of
below_top m r l = total_has (λ i. suc (stands_on m i)) (m.rows 5) r l

-- from a reaction to the port at place k of its effects
pub port_falls : (m : Image) → LevelsRise m → (r k : ℕ) → r < m.rows 5 → k < effects_of m r → port_climb m (port_of m r k) < climb m r
unfolding port_climb climb
port_falls m h r k l u = go (eqb (triggers_of m (port_of m r k)) 0) refl
  where
    go : (b : Bool) → eqb (triggers_of m (port_of m r k)) 0 ≡ b → cond b 0 (2 * (top_of m - stands_on m (target_of m (port_of m r k) 0)) + 1) < 2 * (top_of m - stands_on m r)
    go true e = let a = below_top m r l in omega arith
    go false e =
        let n = eqb-false (triggers_of m (port_of m r k)) 0 e in
        let z : 0 < triggers_of m (port_of m r k) = omega (arith, n) in
        let t : Triggers m r (target_of m (port_of m r k) 0) = record { effect = k; trigger = 0; effect_there = u; trigger_there = z; target = refl } in
        let x = trigger_rises m h r (target_of m (port_of m r k) 0) l t in
        let a = below_top m (target_of m (port_of m r k) 0) x.0 in
        let b = x.1 in
        omega arith

-- from a port to the reaction at place j of its triggers
pub reaction_falls : (m : Image) → LevelsRise m → (q j : ℕ) → q < m.rows 4 → j < triggers_of m q → climb m (target_of m q j) < port_climb m q
unfolding port_climb climb
reaction_falls m h q j l u =
    let a = (settled m h.accepted).first_lowest q j l u in
    rw (ne_eqb (triggers_of m q) 0 (λ e. omega arith)) (omega arith)
