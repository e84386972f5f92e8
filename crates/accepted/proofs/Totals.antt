-- Laws of sums. Assumes nothing.
use Prim.Native.Nat.{ℕ, zero, suc, ◌+◌, ◌*◌, ◌<◌, ◌≤◌}
use mathlib.Core.Path.{◌≡◌, refl}
use native.Mathlib.Decide.{dec_le}
use native.Mathlib.Omega.{arith}
use Rattle.std.proofs.Common.{suc-mul}
use Rattle.accepted.specs.Totals.{total}

pub total_split : (h f g : ℕ → ℕ) (n : ℕ) → ((i : ℕ) → h i ≡ f i + g i) → total h n ≡ total f n + total g n
unfolding total
total_split h f g zero e = refl
total_split h f g (suc n) e = let a = total_split h f g n e in let b = e n in omega arith

-- a sum whose items are at most those of another, and one whose items are at most b
pub total_most : (f g : ℕ → ℕ) (n : ℕ) → ((i : ℕ) → i < n → f i ≤ g i) → total f n ≤ total g n
unfolding total
total_most f g zero h = omega arith
total_most f g (suc n) h = let a = total_most f g n (λ i l. h i (omega arith)) in let b = h n (omega arith) in omega arith

pub total_few : (f : ℕ → ℕ) (b n : ℕ) → ((i : ℕ) → i < n → f i ≤ b) → total f n ≤ n * b
unfolding total
total_few f b zero h = omega arith
total_few f b (suc n) h =
    let a = total_few f b n (λ i l. h i (omega arith)) in
    let c = h n (omega arith) in
    rw suc-mul (omega arith)

-- each item is at most the sum, and a sum that is not 0 has an item that is not 0
pub total_has : (f : ℕ → ℕ) (n i : ℕ) → i < n → f i ≤ total f n
unfolding total
total_has f zero i l = absurd (omega arith)
total_has f (suc n) i l =
    let more = total_has f n i in
    elim (dec_le n i) [ yes g ↦ (let e : i ≡ n = omega arith in rw e (omega arith)) | no g ↦ (let a = more (omega arith) in omega arith) ]

pub total_some : (f : ℕ → ℕ) (n : ℕ) → 0 < total f n → (i : ℕ) × (i < n) × (0 < f i)
unfolding total
total_some f zero l = absurd (omega arith)
total_some f (suc n) l =
    let more = total_some f n in
    elim (dec_le 1 (f n)) [ yes g ↦ (n, omega arith, g) | no g ↦ (let a = more (omega arith) in (a.0, omega (arith, a.1), a.2)) ]
