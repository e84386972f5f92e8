-- Runs of places that pass a test, and the steps of a scan. Assumes nothing.
use Prim.Native.Nat.{ℕ, zero, suc, ◌+◌, ◌-◌, ◌<◌, ◌≤◌}
use mathlib.Core.Bool.{Bool, true, false, not, ◌&&◌}
use mathlib.Core.Path.{◌≡◌, refl, ◌∙◌, sym}
use native.Mathlib.Nat.{add-zero, add-suc}
use native.Mathlib.Numerals.{add-one}
use native.Mathlib.Omega.{arith}
use borrow.Author.Tests.{not-true}
use Rattle.identity.specs.Scan.{every, Run, Stepped}
use Rattle.identity.proofs.Tests.{below_or_not, failed, both, and-true, and_assoc}

every-add : (test : ℕ → Bool) (o i k : ℕ) → every test o (i + k) ≡ every test o i && every test (o + i) k
unfolding every
every-add test o i zero = rw add-zero (sym (and-true (every test o i)))
every-add test o i (suc k) =
    let e : o + (i + k) ≡ (o + i) + k = omega arith in
    rw (add-suc, every-add test o i k, e) (and_assoc (every test o i) (every test (o + i) k) _)

-- one place of a run
pub every-at : (test : ℕ → Bool) (o k j : ℕ) → every test o k ≡ true → o ≤ j → j < o + k → test j ≡ true
unfolding every
every-at test o zero j e l h = absurd (below j (omega arith))
  where
    below : (j : ℕ) → j < j → ⊥
    below j h = omega arith
every-at test o (suc k) j e l h =
    let b = both (every test o k) (test (o + k)) e in
    below_or_not j (o + k) (λ t. every-at test o k j b.0 l t)
    (λ t. let n : o + k ≡ j = omega arith in rw n at b.1)

-- a block's own loop
pub every-none : (test : ℕ → Bool) (o : ℕ) → true ≡ every test o 0
unfolding every
every-none test o = refl

pub every_one : (test : ℕ → Bool) (o k : ℕ) (a b : Bool) → a ≡ every test o k → b ≡ test (o + k) → a && b ≡ every test o (k + 1)
unfolding every
every_one test o k a b e f = rw (add-one, e, f)

pub every_to : (test : ℕ → Bool) (o k n : ℕ) (a : Bool) → a ≡ every test o k → k ≤ n → n ≤ k → a ≡ every test o n
every_to test o k n a e l h = let z : k ≡ n = omega arith in rw z at e

pub ruleset block_laws = (every-none, every_one, every_to)

-- the loop over blocks
pub run_none : (test : ℕ → Bool) (o end : ℕ) → o ≤ end → Run test o 0 end
unfolding every
run_none test o end h = record { inside = omega arith; all = refl }

pub run-block : {test : ℕ → Bool} {o k end : ℕ} (b : Bool) → Run test o k end → b ≡ every test (o + k) 16 → b ≡ true → o + (k + 16) ≤ end → Run test o (k + 16) end
run-block {test} {o} {k} b p e t h = record { inside = h; all = rw (every-add test o k 16, p.all) (sym e ∙ t) }

pub ruleset run_laws = (run_none, run-block)

-- what passes over each place of a run passes over all of them
pub along : (test : ℕ → Bool) (P : ℕ → Type 0) (o k : ℕ) → ((j : ℕ) → o ≤ j → j < o + k → test j ≡ true → P j → P (j + 1)) → every test o k ≡ true → P o → P (o + k)
unfolding every
along test P o zero f e p = rw add-zero p
along test P o (suc k) f e p =
    let b = both (every test o k) (test (o + k)) e in
    let n : (o + k) + 1 ≡ o + suc k = omega arith in
    rw n at (f (o + k) (omega arith) (omega arith) b.1 (along test P o k (λ j l h. f j l (omega arith)) b.0 p))

-- what is so at o, and not k places on
pub not_there : (test : ℕ → Bool) (o k : ℕ) (b : Bool) → test o ≡ true → b ≡ test (o + k) → not b ≡ true → 1 ≤ k
not_there test o k b t e n =
    below_or_not 0 k (λ h. omega arith)
    (λ h. let z : o + k ≡ o = omega arith in failed (sym (not-true b n) ∙ (e ∙ rw z t)))

-- what a scan keeps: the whole is good exactly where the rest from i is
pub record Kept (whole : Bool) (good : ℕ → Bool) (end i : ℕ) : Type 0 where
  pub inside : i ≤ end
  pub same : whole ≡ good i

module _ {whole : Bool} {good : ℕ → Bool} {end i : ℕ} (p : Kept whole good end i) where
  pub kept-stop : good i ≡ false → false ≡ whole
  kept-stop z = sym (p.same ∙ z)

  pub kept_on : {w : ℕ} → Stepped good end i w → Kept whole good end (i + w)
  kept_on q = record { inside = q.inside; same = p.same ∙ q.same }

  pub kept_less : {w : ℕ} → Stepped good end i w → end - (i + w) < end - i
  kept_less q = let h = q.inside in let l = q.forward in omega arith

pub ruleset kept_laws = (kept_on, kept-stop, kept_less)
