-- A scope of an accepted station has at most 8 links exactly where it has no ninth ancestor. Assumes nothing.
use Prim.Native.Nat.{ℕ, zero, suc, ◌+◌, ◌-◌, ◌<◌, ◌≤◌}
use mathlib.Core.Path.{◌≡◌, ap}
use native.Mathlib.Omega.{arith}
use Rattle.std.specs.Prelude.{Option, None}
use Rattle.schema.specs.Indexes.{ScopeIndex}
use Rattle.checks.specs.Image.{Image}
use Rattle.scope_checks.specs.Links.{parents, links_of}
use Rattle.accepted.specs.Chains.{above, ancestor, ChainsEnd}

-- past a chain's end there is none
none_on : (parent : ℕ → Option ScopeIndex) (k i d : ℕ) → ancestor parent k i ≡ None → ancestor parent (d + k) i ≡ None
unfolding ancestor
none_on parent k i zero e = let z : 0 + k ≡ k = omega arith in rw z e
none_on parent k i (suc d) e = let z : suc d + k ≡ suc (d + k) = omega arith in rw z (ap (above parent) (none_on parent k i d e))

module _ (m : Image) (ends : ChainsEnd m) (i : ℕ) (l : i < m.rows 7) where
  pub few_none : links_of (parents m) (m.rows 7) i ≤ 8 → ancestor (parents m) 9 i ≡ None
  few_none u =
      let k = links_of (parents m) (m.rows 7) i in
      let e : (8 - k) + suc k ≡ 9 = omega arith in
      rw e at (none_on (parents m) (suc k) i (8 - k) (ends i l).1)

  pub none_few : ancestor (parents m) 9 i ≡ None → links_of (parents m) (m.rows 7) i ≤ 8
  none_few e = let h = (ends i l).2 9 e in omega arith
