-- Document 02's checks on single tallies, by computation. Assumes nothing.
use Prim.Native.Nat.{ℕ, ◌-◌, ◌^◌}
use mathlib.Core.Path.{◌≡◌, refl}
use Rattle.answers.specs.declared.Refusal.TheVariants.{TallyFull, LinkSumTooLarge, NothingToDivide, NoSuchTally}
use Rattle.std.specs.Prelude.{Ok, Err}
use Rattle.answers.specs.Checks.{first}
use Rattle.tally.specs.declared.Tally.{Tally}
use Rattle.tally.specs.declared.LineResult.TheVariants.{Accepted, Refused}
use Rattle.tally.specs.declared.Fraction.{Fraction}
use Rattle.tally.specs.Gcd.{gcd, remainders}
use Rattle.tally.specs.Tally.{empty, given, add_answer, added}
use Rattle.tally.specs.Fractions.{lowest, asked, share, mean}

abbrev of : ℕ → ℕ → ℕ → Tally
of n a l = record { answers = n; accepted = a; links = l }

abbrev over : ℕ → ℕ → Fraction
over a b = record { numerator = a; denominator = b }

share-of-six : share (of 6 4 9) ≡ Ok (over 2 3)
unfolding asked first given lowest gcd remainders
share-of-six = refl

none-of-five : share (of 5 0 0) ≡ Ok (over 0 1)
unfolding asked first given lowest gcd remainders
none-of-five = refl

full-share : share (of 1_000_000 999_998 7) ≡ Ok (over 499_999 500_000)
unfolding asked first given lowest gcd remainders
full-share = refl

largest-mean : mean (of 3 3 (2 ^ 64 - 1)) ≡ Ok (over 6148914691236517205 1)
unfolding asked first given lowest gcd remainders
largest-mean = refl

-- 45, and 46 before it
nothing-asked : share empty ≡ Err NothingToDivide
unfolding asked first given
nothing-asked = refl

none-accepted : mean (of 5 0 0) ≡ Err NothingToDivide
unfolding asked first given
none-accepted = refl

links-of-none : mean (of 5 0 1) ≡ Err NoSuchTally
unfolding asked first given
links-of-none = refl

-- 46 before 40 before 44; the largest sum is still taken
more-than-full : add_answer (of 1_000_001 0 0) Refused ≡ Err NoSuchTally
unfolding added add_answer first given
more-than-full = refl

full-and-past : add_answer (of 1_000_000 1 (2 ^ 64 - 1)) (Accepted 1) ≡ Err TallyFull
unfolding added add_answer first given
full-and-past = refl

past : add_answer (of 9 1 (2 ^ 64 - 1)) (Accepted 1) ≡ Err LinkSumTooLarge
unfolding added add_answer first given
past = refl

not-past : added (of 9 1 (2 ^ 64 - 2)) (Accepted 1) ≡ of 10 2 (2 ^ 64 - 1)
unfolding added add_answer first given
not-past = refl

last-place : added (of 999_999 1 (2 ^ 64 - 1)) Refused ≡ of 1_000_000 1 (2 ^ 64 - 1)
unfolding added add_answer first given
last-place = refl
