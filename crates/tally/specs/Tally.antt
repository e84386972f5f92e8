-- A running tally of line answers (document 02, Wish 13). Assumes nothing.
use Rattle.std.specs.Prelude.{ℕ, ◌+◌, ◌^◌, Bool, ◌&&◌, ◌||◌, List, [], ◌∷◌, ltb, leb, eqb, length, Ok, Err}
use Rattle.answers.specs.declared.Refusal.TheVariants.{TallyFull, LinkSumTooLarge, NoSuchTally}
use Rattle.answers.specs.Checks.{Check, need, first, Outcome}
use Rattle.tally.specs.declared.Tally.{Tally}
use Rattle.tally.specs.declared.LineResult.{LineResult}
use Rattle.tally.specs.declared.LineResult.TheVariants.{Accepted, Refused}

-- "at most 1,000,000"
abbrev pub most : ℕ
most = 1_000_000

abbrev pub empty : Tally
empty = record { answers = 0; accepted = 0; links = 0 }

-- "an accepted answer comes in with any 64-bit link count, a refused one with none"
abbrev pub links_in : LineResult → ℕ
links_in (Accepted n) = n
links_in Refused = 0

abbrev pub accepted_in : LineResult → ℕ
accepted_in (Accepted n) = 1
accepted_in Refused = 0

-- some sequence gives the tally: not more accepted than answers, not too many, and no links where none is accepted
unfoldable pub given : Tally → Bool
given t =
    leb t.accepted t.answers
    && (leb t.answers most && (ltb t.links (2 ^ 64) && (ltb 0 t.accepted || eqb t.links 0)))

-- "46 first, for a tally that no sequence gives"; "40 when the tally is full and 44 when the link sum would pass 64 bits, full first"
abbrev pub add_checks : Tally → ℕ → List Check
add_checks t links =
    need (given t) NoSuchTally
    ∷ need (ltb t.answers most) TallyFull
    ∷ need (ltb (t.links + links) (2 ^ 64)) LinkSumTooLarge
    ∷ []

-- one answer more
abbrev pub with_line : Tally → LineResult → Tally
with_line t e =
    record {
      answers = t.answers + 1;
      accepted = t.accepted + accepted_in e;
      links = t.links + links_in e;
    }

-- "no refusal changes the tally"
abbrev pub after : Outcome → Tally → LineResult → Tally
after (Ok u) t e = with_line t e
after (Err r) t e = t

-- what adding an answer says, and the tally after it
unfoldable pub add_answer : Tally → LineResult → Outcome
add_answer t e = first (add_checks t (links_in e))

unfoldable pub added : Tally → LineResult → Tally
added t e = after (add_answer t e) t e

-- a sequence of answers added one after the other; what is refused leaves the tally as it was
unfoldable pub tallied : Tally → List LineResult → Tally
tallied t [] = t
tallied t (e ∷ es) = tallied (added t e) es

-- those of a sequence that were taken
abbrev pub if_taken : Outcome → LineResult → List LineResult → List LineResult
if_taken (Ok u) e es = e ∷ es
if_taken (Err r) e es = es

unfoldable pub taken : Tally → List LineResult → List LineResult
taken t [] = []
taken t (e ∷ es) = if_taken (add_answer t e) e (taken (added t e) es)

-- the tally worked out from answers: how many, how many accepted, the sum of their links
unfoldable pub accepted_of : List LineResult → ℕ
accepted_of [] = 0
accepted_of (e ∷ es) = accepted_in e + accepted_of es

unfoldable pub links_of : List LineResult → ℕ
links_of [] = 0
links_of (e ∷ es) = links_in e + links_of es

abbrev pub counted : List LineResult → Tally
counted es = record { answers = length es; accepted = accepted_of es; links = links_of es }
