-- What document 02 promises of tallies (Wish 13). Assumes nothing.
use Rattle.std.specs.Prelude.{ℕ, ◌*◌, ◌<◌, ◌^◌, true, ◌≡◌, ◌↔◌, List, [], ◌∷◌, ◌++◌, Result, Ok, Err}
use Rattle.std.specs.Int.{◌∣◌}
use Rattle.answers.specs.declared.Refusal.{Refusal}
use Rattle.tally.specs.declared.Tally.{Tally}
use Rattle.tally.specs.declared.LineResult.{LineResult}
use Rattle.tally.specs.declared.Fraction.{Fraction}
use Rattle.tally.specs.Tally.{empty, links_in, given, add_answer, added, tallied, taken, counted}
use Rattle.tally.specs.Fractions.{share, mean}

-- "adding one list and then another equals adding both joined"
abbrev pub Joined : Type 0
Joined = (t : Tally) (xs ys : List LineResult) → tallied t (xs ++ ys) ≡ tallied (tallied t xs) ys

-- "the tally after any sequence is the one worked out from the answers it took, additions refused left out"
abbrev pub WorkedOut : Type 0
WorkedOut = (es : List LineResult) → tallied empty es ≡ counted (taken empty es)

-- "any 64-bit link count"
unfoldable pub LinksFit : List LineResult → Type 0
LinksFit [] = Unit {0}
LinksFit (e ∷ es) = (links_in e < 2 ^ 64) × LinksFit es

-- "46 for a tally that no sequence gives": it lets by just those that some sequence gives
abbrev pub GivenExactly : Type 0
GivenExactly = (t : Tally) → (given t ≡ true) ↔ ((es : List LineResult) × LinksFit es × (tallied empty es ≡ t))

-- "no refusal changes the tally"
abbrev pub Unchanged : Type 0
Unchanged = (t : Tally) (e : LineResult) (r : Refusal) → add_answer t e ≡ Err r → added t e ≡ t

-- f is a over b, and only 1 divides both of its numbers
abbrev pub InLowestTerms : ℕ → ℕ → Fraction → Type 0
InLowestTerms a b f =
    (f.numerator * b ≡ a * f.denominator) × ((k : ℕ) → k ∣ f.numerator → k ∣ f.denominator → k ≡ 1)

-- "exact fractions in lowest terms": the answer is f just where f is a over b in lowest terms
abbrev pub GivesLowest : Tally → ℕ → ℕ → Result Fraction Refusal → Type 0
GivesLowest t a b r = (f : Fraction) → (r ≡ Ok f) ↔ ((given t ≡ true) × (0 < b) × InLowestTerms a b f)

abbrev pub ShareInLowestTerms : Type 0
ShareInLowestTerms = (t : Tally) → GivesLowest t t.accepted t.answers (share t)

abbrev pub MeanInLowestTerms : Type 0
MeanInLowestTerms = (t : Tally) → GivesLowest t t.links t.accepted (mean t)
