-- Spans one after the other among `all` keys: no key is in two of them; where each key is in one, they leave no gap. Assumes nothing.
use Prim.Native.Nat.{ℕ, zero, suc, ◌+◌, ◌<◌, ◌≤◌}
use mathlib.Core.Path.{◌≡◌, refl}
use native.Mathlib.Decide.{dec_le}
use native.Mathlib.Omega.{arith}
use Rattle.accepted.specs.Totals.{total}

module _ (start len : ℕ → ℕ) (n : ℕ) (after : (i : ℕ) → suc i < n → start i + len i ≤ start (suc i)) where
  apart : (i k : ℕ) → i < k → k < n → start i + len i ≤ start k
  apart i zero l u = absurd (omega arith)
  apart i (suc k) l u =
      let a = after k u in
      let more = apart i k in
      elim (dec_le k i) [ yes g ↦ (let e : i ≡ k = omega arith in rw e a) | no g ↦ (let b = more (omega arith) (omega arith) in omega arith) ]

  pub one_span : (i k key : ℕ) → i < n → k < n → start i ≤ key → key < start i + len i → start k ≤ key → key < start k + len k → i ≡ k
  one_span i k key l u a b c d =
      elim (dec_le i k) [
        | yes g ↦ elim (dec_le k i) [ yes f ↦ omega arith | no f ↦ (let x = apart i k (omega arith) u in absurd (omega arith)) ]
        | no g ↦ (let x = apart k i (omega arith) l in absurd (omega arith))
      ]

  module _ (all : ℕ)
      (inside : (i : ℕ) → i < n → start i + len i ≤ all)
      (covered : (key : ℕ) → key < all → (i : ℕ) × (i < n) × (start i ≤ key) × (key < start i + len i)) where
    -- where the spans before span k end
    abbrev edge : ℕ → ℕ
    edge zero = 0
    edge (suc k) = start k + len k

    past : (i k : ℕ) → i < k → k ≤ n → start i + len i ≤ edge k
    past i zero l u = absurd (omega arith)
    past i (suc k) l u =
        elim (dec_le k i) [ yes g ↦ (let e : i ≡ k = omega arith in rw e (omega arith)) | no g ↦ (let a = apart i k (omega arith) u in omega arith) ]

    edge_before : (k : ℕ) → k < n → edge k ≤ start k
    edge_before zero u = omega arith
    edge_before (suc k) u = after k u

    edge_inside : (k : ℕ) → k ≤ n → edge k ≤ all
    edge_inside zero u = omega arith
    edge_inside (suc k) u = inside k u

    -- a key between two spans would be in none
    no_gap : (k : ℕ) → k < n → start k ≤ edge k
    no_gap k u =
        let a = inside k u in
        elim (dec_le (start k) (edge k)) [
          | yes g ↦ g
          | no g ↦ (
              let c = covered (edge k) (omega arith) in
              elim (dec_le (suc c.0) k) [
                | yes f ↦ (let x = past c.0 k f (omega arith) in absurd (omega arith))
                | no f ↦ elim (dec_le c.0 k) [
                  | yes e ↦ (let x : c.0 ≡ k = omega arith in let y = rw x at c.2 in absurd (omega arith))
                  | no e ↦ (let x = apart k c.0 (omega arith) c.1 in absurd (omega arith))
                ]
              ]
              )
        ]

    no_rest : all ≤ edge n
    no_rest =
        elim (dec_le all (edge n)) [
          | yes g ↦ g
          | no g ↦ (let c = covered (edge n) (omega arith) in let x = past c.0 n c.1 (omega arith) in absurd (omega arith))
        ]

    edge_total : (k : ℕ) → k ≤ n → edge k ≡ total len k
    unfolding total
    edge_total zero u = refl
    edge_total (suc k) u =
        let e = edge_total k (omega arith) in
        let a = edge_before k u in
        let b = no_gap k u in
        omega arith

    pub add_up : total len n ≡ all
    add_up =
        let e = edge_total n (omega arith) in
        let a = edge_inside n (omega arith) in
        let b = no_rest in
        omega arith
