-- The first legal table, and the next after a given one: what is answered, and what the lent bytes hold after (document 02, Wish 10). Assumes nothing.
use Rattle.std.specs.Prelude.{ℕ, ◌+◌, ◌&&◌, leb, eqb, List, [], ◌∷◌, ◌++◌, length, Option, Some, None, Result, Ok, Err}
use Rattle.answers.specs.declared.Refusal.{Refusal}
use Rattle.answers.specs.declared.Refusal.TheVariants.{ScopeCount, ParentsLength, ParentOutside, NotATree}
use Rattle.answers.specs.Checks.{Check, need, first, Outcome, answer_of}
use Rattle.trees.specs.declared.Next.{Next}
use Rattle.trees.specs.declared.Next.TheVariants.{Table, End}
use Rattle.trees.specs.Trees.{at_most, legal, number, first_from}

-- "38 count outside 1 to 4, then 41 length not the count"
abbrev pub first_checks : ℕ → List ℕ → List Check
first_checks n t = need (leb 1 n && leb n 4) ScopeCount ∷ need (eqb (length t) n) ParentsLength ∷ []

-- "then, for the next only, 42 a byte over the count, then 43 not legal"
abbrev pub next_checks : ℕ → List ℕ → List Check
next_checks n t = first_checks n t ++ (need (at_most n t) ParentOutside ∷ need (legal n t) NotATree ∷ [])

-- "the next after a given one, or the end"
abbrev pub next_after : ℕ → List ℕ → Option (List ℕ)
next_after n t = first_from n (number n t + 1)

abbrev pub found : Option (List ℕ) → Next
found (Some u) = Table
found None = End

-- "the given bytes are replaced by the answer; at the end and on refusal they are unchanged"
abbrev pub replaced : Outcome → Option (List ℕ) → List ℕ → List ℕ
replaced (Ok p) (Some u) t = u
replaced (Ok p) None t = t
replaced (Err r) o t = t

-- what the first legal table is asked for, and the next: the answer, and the bytes after it
unfoldable pub first_answer : ℕ → List ℕ → Outcome
first_answer n t = first (first_checks n t)

unfoldable pub first_bytes : ℕ → List ℕ → List ℕ
first_bytes n t = replaced (first (first_checks n t)) (first_from n 0) t

unfoldable pub next_answer : ℕ → List ℕ → Result Next Refusal
next_answer n t = answer_of (first (next_checks n t)) (found (next_after n t))

unfoldable pub next_bytes : ℕ → List ℕ → List ℕ
next_bytes n t = replaced (first (next_checks n t)) (next_after n t) t
