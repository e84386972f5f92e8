-- What acceptance says of effects and triggers: what the check of levels and the walk rest on. Assumes nothing.
use Prim.Native.Nat.{ℕ, ◌+◌, ◌<◌, ◌≤◌}
use mathlib.Core.Path.{◌≡◌}
use native.Mathlib.Decide.{dec_le}
use native.Mathlib.Omega.{arith}
use Rattle.answers.specs.Checks.{first, passed}
use Rattle.checks.specs.Image.{Image}
use Rattle.enclave.specs.Passes.{enclave_checks}
use Rattle.enclave.proofs.Accepted.{EachPasses, each}
use Rattle.accepted.proofs.Entries.{port_triggers, reaction_effects, in_order}
use Rattle.rising.specs.Rising.{stands_on, effects_of, port_of, triggers_of, target_of}

-- ports and targets are there, a trigger has its target's level, and no target of a port is below its first
pub record Settled (m : Image) : Type 0 where
  pub port_there : (r k : ℕ) → r < m.rows 5 → k < effects_of m r → port_of m r k < m.rows 4
  pub target_there : (q j : ℕ) → q < m.rows 4 → j < triggers_of m q → target_of m q j < m.rows 5
  pub target_level : (q j : ℕ) → q < m.rows 4 → j < triggers_of m q → stands_on m (target_of m q j) ≡ (m.levels 8 ((m.ports q).triggers.start + j)).level
  pub first_lowest : (q j : ℕ) → q < m.rows 4 → j < triggers_of m q → stands_on m (target_of m q 0) ≤ stands_on m (target_of m q j)

-- the target at place j is on no lower level than the first
none_below_first : (m : Image) → EachPasses m → (q j : ℕ) → q < m.rows 4 → j < triggers_of m q → stands_on m (target_of m q 0) ≤ stands_on m (target_of m q j)
none_below_first m h q j l u =
    let t = port_triggers m h q l in
    let a = (t 0 (omega arith)).holds.level in
    let b = (t j u).holds.level in
    elim (dec_le j 0) [
      | yes g ↦ (let e : j ≡ 0 = omega arith in rw e (omega arith))
      | no g ↦ (let c = (in_order {m = m} {entry = λ k. m.levels 8 ((m.ports q).triggers.start + k)} (triggers_of m q) t 0 j (omega arith) u).level in omega arith)
    ]

pub settled : (m : Image) → first (enclave_checks m) ≡ passed → Settled m
settled m e =
    let h = each m e in
    record {
      port_there = λ r k l u. reaction_effects m h r l k u;
      target_there = λ q j l u. (port_triggers m h q l j u).holds.reaction;
      target_level = λ q j l u. (port_triggers m h q l j u).holds.level;
      first_lowest = none_below_first m h;
    }
