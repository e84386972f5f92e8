-- Counts of the numbers below n that pass a test. Assumes nothing.
use Rattle.std.proofs.Common.{ℕ, zero, suc, ◌+◌, ◌<◌, ◌≤◌, Bool, true, false, ◌≡◌, ◌&&◌, cond, List, length, refl, arith}
use Rattle.std.specs.Bool.{then_some}
use Rattle.std.specs.List.{filter, filter_map, cons_option, range_with_len}
use Rattle.schema.specs.Records.{count_below}
use Rattle.schema.proofs.Counts.{count_none, count_next}
use Rattle.identity.proofs.Tests.{cases}
use Rattle.route_pairs.proofs.Tests.{same_or}

module _ (f : ℕ → Bool) where
  below_up : (k n : ℕ) → k ≤ n → count_below f k ≤ count_below f n
  unfolding count_below
  below_up k zero h = let e : k ≡ 0 = omega arith in rw e (omega arith)
  below_up k (suc n) h = same_or k (suc n) (λ (e : k ≡ suc n). rw e (omega arith)) (λ ne. let r = below_up k n (omega arith) in omega arith)

  pub below_zero : (n : ℕ) → ((k : ℕ) → k < n → f k ≡ false) → count_below f n ≡ 0
  unfolding count_below
  below_zero zero h = refl
  below_zero (suc n) h = rw (below_zero n (λ k l. h k (omega arith)), h n (omega arith))

  pub below_some : (n k : ℕ) → k < n → f k ≡ true → 1 ≤ count_below f n
  below_some n k h e =
      let a = rw e at (count_next f k) in
      let c = below_up (k + 1) n (omega arith) in
      omega arith

  pub below_one : (n : ℕ) → ((i j : ℕ) → i < n → j < n → f i ≡ true → f j ≡ true → i ≡ j) → count_below f n ≤ 1
  unfolding count_below
  below_one zero h = omega arith
  below_one (suc n) h =
      cases (f n)
      (λ t.
      let z = below_zero n (λ k l. cases (f k) (λ u. absurd (let e = h k n (omega arith) (omega arith) u t in omega arith)) (λ u. u)) in
      rw (z, t) (omega arith))
      (λ u. let r = below_one n (λ i j a b. h i j (omega arith) (omega arith)) in rw u (omega arith))

  pub below_two : (n i j : ℕ) → i < j → j < n → f i ≡ true → f j ≡ true → 2 ≤ count_below f n
  below_two n i j h g a b =
      let s = below_some j i h a in
      let m = rw b at (count_next f j) in
      let u = below_up (j + 1) n (omega arith) in
      omega arith

-- of the numbers from a on, those that pass t, by g, and then q
module _ {A : Type 0} (t : ℕ → Bool) (g : ℕ → A) (q : A → Bool) where
  abbrev kept : ℕ → ℕ → List A
  kept a n = filter q (filter_map (λ k. then_some (t k) (g k)) (range_with_len a n))

  abbrev passes : ℕ → Bool
  passes k = t k && q (g k)

  kept-first : (x y : Bool) (b : A) (bs : List A) → q b ≡ y → length (filter q (cons_option (then_some x b) bs)) ≡ cond (x && y) 1 0 + length (filter q bs)
  kept-first false y b bs e = omega arith
  kept-first true true b bs e = rw e (omega arith)
  kept-first true false b bs e = rw e (omega arith)

  counted_on : (n a : ℕ) → count_below passes a + length (kept a n) ≡ count_below passes (a + n)
  counted_on zero a = let e : a + 0 ≡ a = omega arith in rw e (omega arith)
  counted_on (suc n) a =
      let f = kept-first (t a) (q (g a)) (g a) (filter_map (λ k. then_some (t k) (g k)) (range_with_len (a + 1) n)) refl in
      let r = counted_on n (a + 1) in
      let c = count_next passes a in
      let e : a + suc n ≡ a + 1 + n = omega arith in
      rw e (omega arith)

  pub counted_kept : (n : ℕ) → length (kept 0 n) ≡ count_below passes n
  counted_kept n =
      let z : 0 + n ≡ n = omega arith in
      let e = rw z at (counted_on n 0) in
      let o = count_none passes in
      omega arith
