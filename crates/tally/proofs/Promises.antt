-- What document 02 promises of tallies holds; GivenExactly.antt has the one on refusal 46. Assumes nothing.
use mathlib.Core.Path.{◌≡◌, refl, sym, ◌∙◌}
use mathlib.Core.List.{List, [], ◌∷◌}
use Rattle.std.specs.Prelude.{Ok, Err}
use Rattle.answers.specs.Checks.{Outcome}
use Rattle.tally.specs.declared.Tally.{Tally}
use Rattle.tally.specs.declared.LineResult.{LineResult}
use Rattle.tally.specs.Tally.{empty, with_line, after, add_answer, added, tallied, if_taken, taken, counted}
use Rattle.tally.specs.Promises.{Joined, WorkedOut, Unchanged, ShareInLowestTerms, MeanInLowestTerms}
use Rattle.tally.proofs.FractionLaws.{asked-lowest}
use Rattle.tally.proofs.CountingLaws.{plus, plus-line, plus_none, empty-plus}

pub joined : Joined
unfolding tallied
joined t [] ys = refl
joined t (x ∷ xs) ys = joined (added t x) xs ys

-- from any tally on, the answers taken are counted on top of it
counted-on : (t : Tally) (es : List LineResult) → tallied t es ≡ plus t (counted (taken t es))
unfolding tallied taken added
counted-on t [] = sym (plus_none t)
counted-on t (e ∷ es) = let o = add_answer t e in step o (counted-on (after o t e) es)
  where
    step :
        (o : Outcome) → tallied (after o t e) es ≡ plus (after o t e) (counted (taken (after o t e) es))
        → tallied (after o t e) es ≡ plus t (counted (if_taken o e (taken (after o t e) es)))
    step (Ok u) h = h ∙ plus-line t e (taken (with_line t e) es)
    step (Err r) h = h

pub worked-out : WorkedOut
worked-out es = counted-on empty es ∙ empty-plus _

pub unchanged : Unchanged
unfolding added
unchanged t e r h = rw h refl

pub share-in-lowest-terms : ShareInLowestTerms
share-in-lowest-terms t = asked-lowest t t.accepted t.answers

pub mean-in-lowest-terms : MeanInLowestTerms
mean-in-lowest-terms t = asked-lowest t t.links t.accepted
