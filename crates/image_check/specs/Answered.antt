-- What a host finds after a check: how many of the eight lent numbers hold the answer, and what all eight are. Assumes nothing.
use Rattle.std.specs.Prelude.{ℕ, ◌-◌, ◌≡◌, List, [], ◌∷◌, ◌++◌, length, replicate, Ok, Err}
use Rattle.answers.specs.Numbers.{numbers}
use Rattle.answers.specs.Checks.{Outcome}

-- the numbers, then zeros up to eight
abbrev pub filled : List ℕ → List ℕ
filled xs = xs ++ replicate (8 - length xs) 0

-- an answer of `count` numbers stands first in `values`, zeros after it
abbrev pub Answered : List ℕ → ℕ → List ℕ → Type 0
Answered answer count values = (count ≡ length answer) × (values ≡ filled answer)

-- the numbers of what has no value to give: 0 alone, or the refusal's
abbrev pub outcome_numbers : Outcome → List ℕ
outcome_numbers (Ok u) = 0 ∷ []
outcome_numbers (Err r) = numbers r
