-- Laws of tallies: what `given` says, what an addition answers, and what a taken answer keeps. Assumes nothing.
use Prim.Native.Nat.{ℕ, zero, suc, ◌+◌, ◌≤◌, ◌<◌, ◌^◌}
use mathlib.Core.Bool.{Bool, true, false, not, ◌&&◌, ◌||◌, true≢false}
use mathlib.Core.Path.{◌≡◌, refl, sym, ◌∙◌}
use native.Mathlib.Omega.{arith}
use lib.Dec.{ltb, eqb}
use borrow.Author.Tests.{ltb-true, leb-true, eqb-true, lt-ltb, le-ltb, le-leb, lt-leb, not-true, not-false}
use Rattle.answers.specs.declared.Refusal.{Refusal}
use Rattle.std.specs.Prelude.{Ok, Err}
use Rattle.answers.specs.Checks.{first, Outcome, passed}
use Rattle.answers.proofs.Passed.{Passes, test, rest, below}
use Rattle.tally.specs.declared.Tally.{Tally}
use Rattle.tally.specs.declared.LineResult.{LineResult}
use Rattle.tally.specs.declared.LineResult.TheVariants.{Accepted, Refused}
use Rattle.tally.specs.Tally.{most, links_in, accepted_in, given, add_checks, with_line, after, add_answer, added}

both : (a b : Bool) → a && b ≡ true → (a ≡ true) × (b ≡ true)
both true b e = (refl, e)
both false b e = absurd (true≢false (sym e))

-- what `given` says
pub record Given (t : Tally) : Type 0 where
  pub below : t.accepted ≤ t.answers
  pub within : t.answers ≤ most
  pub fits : t.links < 2 ^ 64
  pub none : t.accepted ≡ 0 → t.links ≡ 0

no-links : (n m : ℕ) → ltb 0 n || eqb m 0 ≡ true → n ≡ 0 → m ≡ 0
no-links n m e h = eqb-true m 0 (rw (le-ltb 0 n (omega arith)) at e)

links-none : (n m : ℕ) → (n ≡ 0 → m ≡ 0) → ltb 0 n || eqb m 0 ≡ true
links-none zero m h = rw (h refl) refl
links-none (suc n) m h = rw (lt-ltb 0 (suc n) (omega arith)) refl

pub is-given : (t : Tally) → given t ≡ true → Given t
unfolding given
is-given t e =
    let (b, e₁) = both _ _ e in
    let (w, e₂) = both _ _ e₁ in
    let (f, n) = both _ _ e₂ in
    record {
      below = leb-true _ _ b;
      within = leb-true _ _ w;
      fits = ltb-true _ _ f;
      none = no-links _ _ n;
    }

pub given_is : (t : Tally) → Given t → given t ≡ true
unfolding given
given_is t g =
    rw (le-leb _ _ g.below, le-leb _ _ g.within, lt-ltb _ _ g.fits) (links-none _ _ g.none)

-- `given`, test by test
pub more-accepted : (t : Tally) → t.answers < t.accepted → false ≡ given t
unfolding given
more-accepted t h = rw (lt-leb _ _ h) refl

pub too_many : (t : Tally) → t.accepted ≤ t.answers → most < t.answers → false ≡ given t
unfolding given
too_many t h m = rw (le-leb _ _ h, lt-leb _ _ m) refl

pub some-accepted :
    (t : Tally) → t.accepted ≤ t.answers → t.answers ≤ most → t.links < 2 ^ 64 → 0 < t.accepted
    → true ≡ given t
unfolding given
some-accepted t h m f a = rw (le-leb _ _ h, le-leb _ _ m, lt-ltb _ _ f, lt-ltb _ _ a) refl

pub none-accepted :
    (t : Tally) → t.accepted ≤ t.answers → t.answers ≤ most → t.links < 2 ^ 64 → t.accepted ≤ 0
    → eqb t.links 0 ≡ given t
unfolding given
none-accepted t h m f a = rw (le-leb _ _ h, le-leb _ _ m, lt-ltb _ _ f, le-ltb _ _ a) refl

-- what a negated test tells of `given`
pub known : {b : Bool} (t : Tally) → b ≡ given t → not b ≡ false → given t ≡ true
known t e n = sym e ∙ not-false _ n

pub unknown : {b : Bool} (t : Tally) → b ≡ given t → not b ≡ true → given t ≡ false
unknown t e n = sym e ∙ not-true _ n

-- the tally with a more accepted and n more links
abbrev line : Tally → ℕ → ℕ → Tally
line t a n = record { answers = t.answers + 1; accepted = t.accepted + a; links = t.links + n }

-- what an addition gives, from what its checks answer
pub answer_is : (t : Tally) (e : LineResult) {n : ℕ} {o : Outcome} → n ≡ links_in e → o ≡ first (add_checks t n) → o ≡ add_answer t e
unfolding add_answer
answer_is t e l d = rw (← l) d

pub added-refused : (t : Tally) (e : LineResult) {n : ℕ} {r : Refusal} → n ≡ links_in e → Err r ≡ first (add_checks t n) → t ≡ added t e
unfolding added
added-refused t e {n} {r} l d =
    let q : add_answer t e ≡ Err r = sym (answer_is t e l d) in
    rw q refl

pub added-passed :
    (t : Tally) (e : LineResult) {n a : ℕ} → n ≡ links_in e → a ≡ accepted_in e → passed ≡ first (add_checks t n) → line t a n ≡ added t e
unfolding added
added-passed t e l m d =
    let q : add_answer t e ≡ passed = sym (answer_is t e l d) in
    rw (q, l, m) refl

-- the tally takes one more answer with n links
record Room (t : Tally) (n : ℕ) : Type 0 where
  below : t.accepted ≤ t.answers
  within : t.answers < most
  fits : t.links + n < 2 ^ 64

has_room : (t : Tally) (n : ℕ) → first (add_checks t n) ≡ passed → Room t n
has_room t n p =
    let a : Passes (add_checks t n) = record { is = p } in
    record { below = (is-given t (test a)).below; within = below (rest a); fits = below (rest (rest a)) }

at_most_one : (e : LineResult) → accepted_in e ≤ 1
at_most_one (Accepted n) = omega arith
at_most_one Refused = omega arith

-- so no sum passes 64 bits
pub answers-fit : (t : Tally) (n : ℕ) → passed ≡ first (add_checks t n) → t.answers + 1 < 2 ^ 64
answers-fit t n p = let r = has_room t n (sym p) in omega (arith, r.within)

pub accepted-fit : (t : Tally) (e : LineResult) (n : ℕ) {a : ℕ} → a ≡ accepted_in e → passed ≡ first (add_checks t n) → t.accepted + a < 2 ^ 64
accepted-fit t e n m p = let r = has_room t n (sym p) in omega (arith, at_most_one e, r.within, r.below)

pub links-fit : (t : Tally) (n : ℕ) → passed ≡ first (add_checks t n) → t.links + n < 2 ^ 64
links-fit t n p = (has_room t n (sym p)).fits

pub ruleset add_laws = (answer_is, added-refused, added-passed, answers-fit, accepted-fit, links-fit)

-- where there is room the answer is taken
pub taken-one :
    (t : Tally) (e : LineResult) → Given t → t.answers < most → t.links + links_in e < 2 ^ 64
    → added t e ≡ with_line t e
unfolding added add_answer first
taken-one t e g h l = rw (given_is t g, lt-ltb _ _ h, lt-ltb _ _ l) refl

-- a taken answer keeps what `given` says
pub line-given :
    (t : Tally) (e : LineResult) → Given t → t.answers < most → t.links + links_in e < 2 ^ 64
    → Given (with_line t e)
line-given t (Accepted n) g h l =
    let b = g.below in
    record { below = omega arith; within = omega arith; fits = l; none = λ z. absurd (omega arith) }
line-given t Refused g h l =
    let b = g.below in
    record { below = omega arith; within = omega arith; fits = l; none = λ z. omega (arith, g.none (omega arith)) }

after-given :
    (t : Tally) (e : LineResult) (o : Outcome) → Given t → first (add_checks t (links_in e)) ≡ o
    → Given (after o t e)
after-given t e (Ok u) g p =
    let r = has_room t (links_in e) p in
    line-given t e g r.within r.fits
after-given t e (Err r) g p = g

pub added-given : (t : Tally) (e : LineResult) → Given t → Given (added t e)
unfolding added add_answer
added-given t e g = after-given t e _ g refl
