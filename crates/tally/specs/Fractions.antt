-- The share accepted and the mean links of a tally, as fractions in lowest terms (document 02, Wish 13). Assumes nothing.
use Rattle.std.specs.Prelude.{ℕ, ◌/◌, List, [], ◌∷◌, ltb, Result}
use Rattle.answers.specs.declared.Refusal.{Refusal}
use Rattle.answers.specs.declared.Refusal.TheVariants.{NothingToDivide, NoSuchTally}
use Rattle.answers.specs.Checks.{Check, need, first, answer_of}
use Rattle.tally.specs.declared.Tally.{Tally}
use Rattle.tally.specs.declared.Fraction.{Fraction}
use Rattle.tally.specs.Gcd.{gcd}
use Rattle.tally.specs.Tally.{given}

-- a over b, both divided by what they have in common
unfoldable pub lowest : ℕ → ℕ → Fraction
lowest a b = record { numerator = a / gcd a b; denominator = b / gcd a b }

-- "46 first"; "45 when nothing is there to divide by"
abbrev pub ask_checks : Tally → ℕ → List Check
ask_checks t below = need (given t) NoSuchTally ∷ need (ltb 0 below) NothingToDivide ∷ []

unfoldable pub asked : Tally → ℕ → ℕ → Result Fraction Refusal
asked t above below = answer_of (first (ask_checks t below)) (lowest above below)

-- "the share accepted and the mean links per accepted line"
abbrev pub share : Tally → Result Fraction Refusal
share t = asked t t.accepted t.answers

abbrev pub mean : Tally → Result Fraction Refusal
mean t = asked t t.links t.accepted
