-- Laws of the fractions asked for. Assumes nothing.
use Prim.Native.Nat.{ℕ, ◌/◌, ◌<◌}
use mathlib.Core.Bool.{Bool, true, false}
use mathlib.Core.Path.{◌≡◌, refl, ◌∙◌, sym, ap}
use native.Mathlib.Omega.{arith}
use lib.Dec.{ltb}
use borrow.Author.Tests.{ltb-true, ltb-false, lt-ltb, le-ltb}
use Rattle.answers.specs.declared.Refusal.TheVariants.{NothingToDivide, NoSuchTally}
use Rattle.answers.specs.Checks.{first}
use Rattle.tally.specs.declared.Tally.{Tally}
use Rattle.std.specs.Prelude.{Ok, Err}
use Rattle.tally.specs.Gcd.{gcd}
use Rattle.tally.specs.Tally.{given}
use Rattle.tally.specs.Fractions.{lowest, asked}
use Rattle.tally.specs.Promises.{InLowestTerms, GivesLowest}
use Rattle.tally.proofs.GcdLaws.{gcd-positive}
use Rattle.tally.proofs.TallyLaws.{known, unknown}
use Rattle.tally.proofs.Lowest.{in-lowest-terms, one-lowest}

-- the common divisor is no 0 to divide by
pub divisor-positive : (a b : ℕ) {g : ℕ} → (b ≡ 0 → ⊥) → g ≡ gcd a b → 0 < g
divisor-positive a b p e = rw e (gcd-positive a b (omega arith))

-- what asking answers
module _ (t : Tally) (a b : ℕ) where
  pub asked-unknown : given t ≡ false → Err NoSuchTally ≡ asked t a b
  unfolding asked first
  asked-unknown g = rw g refl

  pub asked-nothing : given t ≡ true → b ≡ 0 → Err NothingToDivide ≡ asked t a b
  unfolding asked first
  asked-nothing g z = rw (g, le-ltb 0 b (omega arith)) refl

  asked_is : given t ≡ true → 0 < b → Ok (lowest a b) ≡ asked t a b
  unfolding asked first
  asked_is k p = rw (k, lt-ltb 0 b p) refl

  pub asked-exactly :
      {g : ℕ} → given t ≡ true → (b ≡ 0 → ⊥) → g ≡ gcd a b
      → Ok (record { numerator = a / g; denominator = b / g }) ≡ asked t a b
  unfolding lowest
  asked-exactly k p e = rw e (asked_is k (omega arith))

  -- the answer is f just where f is a over b in lowest terms
  pub asked-lowest : GivesLowest t a b (asked t a b)
  asked-lowest f = (λ e. by_tests e (given t) (ltb 0 b) refl refl, only)
    where
      by_tests :
          asked t a b ≡ Ok f → (k p : Bool) → given t ≡ k → ltb 0 b ≡ p
          → (given t ≡ true) × (0 < b) × InLowestTerms a b f
      by_tests e false p g h = let z : ◌≡◌ {A = ℕ} 0 1 = cc (asked-unknown g) in absurd (omega arith)
      by_tests e true false g h =
          let z : ◌≡◌ {A = ℕ} 0 1 = cc (asked-nothing g (omega (arith, ltb-false 0 b h))) in absurd (omega arith)
      by_tests e true true g h =
          let l = ltb-true 0 b h in
          let q : lowest a b ≡ f = cc (asked_is g l) in
          (g, l, rw q at (in-lowest-terms a b l))

      only : (given t ≡ true) × (0 < b) × InLowestTerms a b f → asked t a b ≡ Ok f
      only (g, l, i) = sym (asked_is g l) ∙ ap (λ x. Ok x) (one-lowest a b (lowest a b) f l (in-lowest-terms a b l) i)

pub ruleset ask_laws = (divisor-positive, asked-unknown, asked-nothing, asked-exactly, known, unknown)
