-- What is answered about small scope trees as numbers: 0 and how many tables the lent bytes were given, 1 or, at the end, 0. Assumes nothing.
use Rattle.std.specs.Prelude.{ℕ, List, [], ◌∷◌, Result, Ok, Err}
use Rattle.answers.specs.declared.Refusal.{Refusal}
use Rattle.answers.specs.Numbers.{numbers}
use Rattle.answers.specs.Checks.{Outcome}
use Rattle.trees.specs.declared.Next.{Next}
use Rattle.trees.specs.declared.Next.TheVariants.{Table, End}

abbrev pub first_numbers : Outcome → List ℕ
first_numbers (Ok u) = 0 ∷ 1 ∷ []
first_numbers (Err r) = numbers r

abbrev pub next_numbers : Result Next Refusal → List ℕ
next_numbers (Ok Table) = 0 ∷ 1 ∷ []
next_numbers (Ok End) = 0 ∷ 0 ∷ []
next_numbers (Err r) = numbers r
