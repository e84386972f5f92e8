-- Counts of the numbers below n that pass a test, and of a pack's records. Assumes nothing.
use Rattle.std.proofs.Common.{ℕ, ◌+◌, ◌/◌, ◌≤◌, Bool, cond, ltb, ◌≡◌, refl, List, length, arith, add-one}
use borrow.Author.Tests.{ltb-true, ltb-false}
use Rattle.identity.proofs.Tests.{cases}
use Rattle.schema.specs.Records.{records_of, count_below}

module _ (f : ℕ → Bool) where
  pub count_none : count_below f 0 ≡ 0
  unfolding count_below
  count_none = refl

  pub count_next : (n : ℕ) → count_below f (n + 1) ≡ count_below f n + cond (f n) 1 0
  unfolding count_below
  count_next n = rw add-one refl

pub ruleset count_laws = (count_none, count_next)

-- a number cut at 65,536
cut : (n : ℕ) → (cond (ltb n 65536) n 65536 ≤ n) × (cond (ltb n 65536) n 65536 ≤ 65536)
cut n =
    cases (ltb n 65536)
    (λ t. let h = ltb-true n 65536 t in rw t (omega arith, omega arith))
    (λ f. let h = ltb-false n 65536 f in rw f (omega arith, omega arith))

pub records_inside : (p : List ℕ) → records_of p ≤ length p / 64
records_inside p = (cut (length p / 64)).0

pub records_few : (p : List ℕ) → records_of p ≤ 65536
records_few p = (cut (length p / 64)).1
