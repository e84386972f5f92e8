-- The tallies that `given` lets by are those that some sequence of answers gives. Assumes nothing.
use Prim.Native.Nat.{ℕ, zero, suc, ◌+◌, ◌-◌, ◌≤◌, ◌<◌, ◌^◌}
use mathlib.Core.Bool.{true}
use mathlib.Core.Path.{◌≡◌, refl, sym, ◌∙◌}
use mathlib.Core.List.{List, [], ◌∷◌}
use native.Mathlib.Omega.{arith}
use lib.ListN.{length}
use Rattle.tally.specs.declared.Tally.{Tally}
use Rattle.tally.specs.declared.LineResult.{LineResult}
use Rattle.tally.specs.declared.LineResult.TheVariants.{Accepted, Refused}
use Rattle.tally.specs.Tally.{most, empty, given, with_line, added, tallied, accepted_of, links_of, counted}
use Rattle.tally.specs.Promises.{LinksFit, GivenExactly}
use Rattle.tally.proofs.TallyLaws.{Given, is-given, given_is, line-given, taken-one, added-given}
use Rattle.tally.proofs.CountingLaws.{same, plus, plus-line, plus_none, empty-plus}

-- what a sequence gives is given
tallied-given : (t : Tally) (es : List LineResult) → Given t → Given (tallied t es)
unfolding tallied
tallied-given t [] g = g
tallied-given t (e ∷ es) g = tallied-given (added t e) es (added-given t e g)

empty-given : Given empty
empty-given = record { below = omega arith; within = omega arith; fits = omega arith; none = λ z. refl }

-- a sequence for which there is room is taken whole
all-taken :
    (t : Tally) (es : List LineResult)
    → Given t → t.answers + length es ≤ most → t.links + links_of es < 2 ^ 64
    → tallied t es ≡ plus t (counted es)
unfolding tallied links_of accepted_of
all-taken t [] g h l = sym (plus_none t)
all-taken t (e ∷ es) g h l =
    rw (taken-one t e g (omega arith) (omega arith))
    (all-taken (with_line t e) es (line-given t e g (omega arith) (omega arith)) (omega arith) (omega arith)
    ∙ plus-line t e es)

-- n refused answers; k accepted ones with no links, and then those
refusals : ℕ → List LineResult
refusals zero = []
refusals (suc n) = Refused ∷ refusals n

linkless : ℕ → ℕ → List LineResult
linkless zero n = refusals n
linkless (suc k) n = Accepted 0 ∷ linkless k n

-- a sequence that gives a tally: one accepted answer has all links
lines : (answers accepted links : ℕ) → List LineResult
lines answers zero links = refusals answers
lines answers (suc k) links = Accepted links ∷ linkless k (answers - suc k)

-- n answers, a of them accepted, with l links
abbrev Counts : List LineResult → ℕ → ℕ → ℕ → Type 0
Counts es n a l = (length es ≡ n) × (accepted_of es ≡ a) × (links_of es ≡ l)

refusals-counted : (n : ℕ) → Counts (refusals n) n 0 0
unfolding refusals accepted_of links_of
refusals-counted zero = (refl, refl, refl)
refusals-counted (suc n) = let c = refusals-counted n in (omega arith, omega arith, omega arith)

linkless-counted : (k n : ℕ) → Counts (linkless k n) (k + n) k 0
unfolding linkless accepted_of links_of
linkless-counted zero n = let c = refusals-counted n in (omega arith, omega arith, omega arith)
linkless-counted (suc k) n = let c = linkless-counted k n in (omega arith, omega arith, omega arith)

lines-counted : (n a l : ℕ) → a ≤ n → (a ≡ 0 → l ≡ 0) → Counts (lines n a l) n a l
unfolding lines accepted_of links_of
lines-counted n zero l b z = let c = refusals-counted n in (c.0, c.1, omega (arith, z refl))
lines-counted n (suc k) l b z = let c = linkless-counted k (n - suc k) in (omega arith, omega arith, omega arith)

-- a given tally is what those lines give
lines-give : (t : Tally) → Given t → tallied empty (lines t.answers t.accepted t.links) ≡ t
lines-give t g =
    let (n, a, l) = lines-counted t.answers t.accepted t.links g.below g.none in
    let whole = all-taken empty (lines t.answers t.accepted t.links) empty-given (omega arith) (omega arith) in
    whole ∙ (empty-plus _ ∙ same _ _ n a l)

refusals-fit : (n : ℕ) → LinksFit (refusals n)
unfolding LinksFit refusals
refusals-fit zero = tt
refusals-fit (suc n) = (omega arith, refusals-fit n)

linkless-fit : (k n : ℕ) → LinksFit (linkless k n)
unfolding LinksFit linkless
linkless-fit zero n = refusals-fit n
linkless-fit (suc k) n = (omega arith, linkless-fit k n)

lines_fit : (answers accepted links : ℕ) → links < 2 ^ 64 → LinksFit (lines answers accepted links)
unfolding LinksFit lines
lines_fit answers zero links f = refusals-fit answers
lines_fit answers (suc k) links f = (f, linkless-fit k (answers - suc k))

pub given-exactly : GivenExactly
given-exactly t = (some-lines, by_lines)
  where
    some-lines : given t ≡ true → (es : List LineResult) × LinksFit es × (tallied empty es ≡ t)
    some-lines e = let g = is-given t e in (lines _ _ _, lines_fit _ _ _ g.fits, lines-give t g)

    by_lines : (es : List LineResult) × LinksFit es × (tallied empty es ≡ t) → given t ≡ true
    by_lines s = given_is t (rw s.2 at (tallied-given empty s.0 empty-given))
