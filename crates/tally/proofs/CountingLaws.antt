-- Tallies counted on top of one another. Assumes nothing.
use Prim.Native.Nat.{ℕ, ◌+◌}
use mathlib.Core.Path.{◌≡◌, refl}
use mathlib.Core.List.{List, [], ◌∷◌}
use native.Mathlib.Omega.{arith}
use Rattle.tally.specs.declared.Tally.{Tally}
use Rattle.tally.specs.declared.LineResult.{LineResult}
use Rattle.tally.specs.Tally.{empty, with_line, accepted_of, links_of, counted}

-- tallies are equal where their numbers are
pub same :
    (t u : Tally) → t.answers ≡ u.answers → t.accepted ≡ u.accepted → t.links ≡ u.links → t ≡ u
same t u p q r = numbers p q r
  where
    numbers :
        {a b c d e f : ℕ} → a ≡ b → c ≡ d → e ≡ f
        → ◌≡◌ {A = Tally} (record { answers = a; accepted = c; links = e }) (record { answers = b; accepted = d; links = f })
    numbers p q r = rw (p, q, r) refl

-- two tallies' numbers added
abbrev pub plus : Tally → Tally → Tally
plus t u =
    record {
      answers = t.answers + u.answers;
      accepted = t.accepted + u.accepted;
      links = t.links + u.links;
    }

-- an answer added first or last
pub plus-line : (t : Tally) (e : LineResult) (es : List LineResult) → plus (with_line t e) (counted es) ≡ plus t (counted (e ∷ es))
unfolding accepted_of links_of
plus-line t e es = same _ _ (omega arith) (omega arith) (omega arith)

pub plus_none : (t : Tally) → plus t (counted []) ≡ t
unfolding accepted_of links_of
plus_none t = same _ _ (omega arith) (omega arith) (omega arith)

pub empty-plus : (t : Tally) → plus empty t ≡ t
empty-plus t = same _ _ (omega arith) (omega arith) (omega arith)
