-- A tally as the three numbers that a host keeps, and what is asked of it as the numbers of an answer. Assumes nothing.
use Rattle.std.specs.Prelude.{ℕ, List, [], ◌∷◌, get_or, Result, Ok, Err}
use Rattle.answers.specs.declared.Refusal.{Refusal}
use Rattle.answers.specs.Numbers.{numbers}
use Rattle.tally.specs.declared.Tally.{Tally}
use Rattle.tally.specs.declared.Fraction.{Fraction}

abbrev pub tally_of : List ℕ → Tally
tally_of ns = record { answers = get_or ns 0 0; accepted = get_or ns 1 0; links = get_or ns 2 0 }

abbrev pub tally_numbers : Tally → List ℕ
tally_numbers t = t.answers ∷ t.accepted ∷ t.links ∷ []

-- 0 and a fraction
abbrev pub fraction_numbers : Result Fraction Refusal → List ℕ
fraction_numbers (Ok f) = 0 ∷ f.numerator ∷ f.denominator ∷ []
fraction_numbers (Err r) = numbers r
