-- Depths of n items, each below n, where an item of depth k + 1 needs one of depth k: they add up to n * (n - 1) / 2 at most. Assumes nothing.
use Prim.Native.Nat.{ℕ, zero, suc, ◌+◌, ◌-◌, ◌*◌, ◌/◌, ◌<◌, ◌≤◌}
use mathlib.Core.Path.{◌≡◌}
use native.Mathlib.Decide.{dec_le}
use native.Mathlib.Omega.{arith}
use Rattle.accepted.specs.Totals.{total}
use Rattle.accepted.proofs.Totals.{total_split, total_most, total_few, total_has, total_some}

-- 1 for a depth of k or more, else 0; and 1 for depth k
abbrev at_least : ℕ → ℕ → ℕ
at_least k x = 1 - (k - x)

abbrev exactly : ℕ → ℕ → ℕ
exactly k x = at_least k x - at_least (suc k) x

least_split : (k x : ℕ) → at_least k x ≡ at_least (suc k) x + exactly k x
least_split k x = omega arith

over_split : (k x : ℕ) → x - k ≡ x - suc k + at_least (suc k) x
over_split k x = omega arith

is_least : (k x : ℕ) → 0 < at_least k x → k ≤ x
is_least k x l = omega arith

is_exactly : (k x : ℕ) → x ≡ k → exactly k x ≡ 1
is_exactly k x e = omega arith

module _ (d : ℕ → ℕ) (n : ℕ) where
  -- what lies above depth k, and how many items have depth k or more
  abbrev over : ℕ → ℕ
  over k = total (λ i. d i - k) n

  abbrev reach : ℕ → ℕ
  reach k = total (λ i. at_least k (d i)) n

  over_step : (k : ℕ) → over k ≡ over (suc k) + reach (suc k)
  over_step k = total_split (λ i. d i - k) (λ i. d i - suc k) (λ i. at_least (suc k) (d i)) n (λ i. over_split k (d i))

  module _ (down : (i : ℕ) → i < n → 0 < d i → (j : ℕ) × (j < n) × (d i ≡ suc (d j))) where
    -- from any depth there is a way down to each lower one
    level : (e k i : ℕ) → i < n → d i ≡ k + e → (j : ℕ) × (j < n) × (d j ≡ k)
    level zero k i l u = (i, l, omega arith)
    level (suc e) k i l u = let x = down i l (omega arith) in level e k x.0 x.1 (omega arith)

    one_less : (k j : ℕ) → j < n → d j ≡ k → reach k ≤ n - k → reach (suc k) ≤ n - suc k
    one_less k j l e before =
        let a = total_has (λ i. exactly k (d i)) n j l in
        let b = total_split (λ i. at_least k (d i)) (λ i. at_least (suc k) (d i)) (λ i. exactly k (d i)) n (λ i. least_split k (d i)) in
        let c = is_exactly k (d j) e in
        count (reach k) (reach (suc k)) (total (λ i. exactly k (d i)) n) (rw c at a) b before
      where
        count : (r q x : ℕ) → 1 ≤ x → r ≡ q + x → r ≤ n - k → q ≤ n - suc k
        count r q x u v w = omega arith

    -- so each depth that is reached takes an item
    reach_few : (k : ℕ) → reach k ≤ n - k
    reach_few zero = let a = total_few (λ i. at_least 0 (d i)) 1 n (λ i l. omega arith) in omega arith
    reach_few (suc k) =
        let before = reach_few k in
        elim (dec_le (reach (suc k)) 0) [
          | yes g ↦ omega arith
          | no g ↦ (
              let x = total_some (λ i. at_least (suc k) (d i)) n (omega arith) in
              let l = is_least (suc k) (d x.0) x.2 in
              let y = level (d x.0 - k) k x.0 x.1 (omega arith) in
              one_less k y.0 y.1 y.2 before
              )
        ]

    -- and no depth is n or more
    pub depth_few : (i : ℕ) → i < n → d i < n
    depth_few i l =
        let a = total_has (λ j. at_least (d i) (d j)) n i l in
        let b = reach_few (d i) in
        below (d i) (reach (d i)) a b
      where
        below : (x r : ℕ) → at_least x x ≤ r → r ≤ n - x → x < n
        below x r u v = omega arith

    over_sum : (k : ℕ) → over 0 ≤ total (λ t. n - suc t) k + over k
    unfolding total
    over_sum zero = omega arith
    over_sum (suc k) =
        let a = over_sum k in
        let b = over_step k in
        let c = reach_few (suc k) in
        omega arith

    -- the sum of n - 1, n - 2, ..
    falling : (k : ℕ) → k ≤ n → 2 * total (λ t. n - suc t) k + k * k + k ≡ 2 * (n * k)
    unfolding total
    falling zero l = omega arith
    falling (suc k) l = let a = falling k (omega arith) in omega arith

    module _ (few : (i : ℕ) → i < n → d i < n) where
      twice : 2 * total d n + n ≤ n * n
      twice =
          let a = over_sum n in
          let b = total_few (λ i. d i - n) 0 n (λ i l. let x = few i l in omega arith) in
          let c = total_most d (λ i. d i - 0) n (λ i l. omega arith) in
          let e = falling n (omega arith) in
          omega arith

      pub depths_bounded : total d n ≤ n * (n - 1) / 2
      depths_bounded = by n twice
        where
          by : (k : ℕ) → 2 * total d n + k ≤ k * k → total d n ≤ k * (k - 1) / 2
          by zero l = omega arith
          by (suc k) l = let e : suc k - 1 ≡ k = omega arith in rw e (omega arith)
