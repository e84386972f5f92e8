-- A range or a span whose checks pass: it ends inside, and where its length says. Assumes nothing.
use Prim.Native.Nat.{ℕ, suc, ◌+◌, ◌-◌, ◌^◌, ◌≤◌}
use mathlib.Core.Bool.{Bool, true, false, true≢false, cond}
use mathlib.Core.Path.{◌≡◌, refl, sym}
use mathlib.Core.List.{List, ◌∷◌}
use native.Mathlib.Omega.{arith}
use lib.Dec.{ltb, leb}
use borrow.Author.Tests.{leb-true, ne_eqb}
use Rattle.std.specs.Prelude.{Some, None, unwrap_or}
use Rattle.range.specs.declared.SliceRange.{SliceRange}
use Rattle.range.specs.Range.{checked_end, saturating_end}
use Rattle.answers.specs.declared.Refusal.{Refusal}
use Rattle.answers.specs.Checks.{Check, need}
use Rattle.answers.proofs.Passed.{Passes, test, rest, at_most}
use Rattle.checks.specs.Refs.{end_within, end_before}

-- a range or a span among n entries, not before the end of the one before: it ends inside, and where its length says
pub record Fits (start len n previous : ℕ) : Type 0 where
  pub inside : start + len ≤ n
  pub end : saturating_end start len ≡ start + len
  pub after : previous ≤ start

abbrev pub RangeFits : SliceRange → ℕ → ℕ → Type 0
RangeFits r n previous = Fits r.start r.len n previous

end_inside : (start len n : ℕ) → end_within (checked_end start len) n ≡ true → (start + len ≤ n) × (saturating_end start len ≡ start + len)
unfolding saturating_end checked_end
end_inside start len n = go (ltb (start + len) (2 ^ 64))
  where
    go :
        (b : Bool) → end_within (cond b (Some (start + len)) None) n ≡ true
        → (start + len ≤ n) × (unwrap_or (cond b (Some (start + len)) None) (2 ^ 64 - 1) ≡ start + len)
    go true e = (leb-true (start + len) n e, refl)
    go false e = absurd (true≢false (sym e))

module _ {start len n previous : ℕ} {r q : Refusal} {cs : List Check}
    (h : Passes (need (end_within (checked_end start len) n) r ∷ need (leb previous start) q ∷ cs)) where
  pub fits : Fits start len n previous
  fits = let e = end_inside start len n (test h) in record { inside = e.0; end = e.1; after = at_most (rest h) }

-- where the row before ends
pub before_next : (end : ℕ → ℕ) (i : ℕ) → end_before end (suc i) ≡ end i
before_next end i = let e : suc i - 1 ≡ i = omega arith in rw (ne_eqb (suc i) 0 (λ z. omega arith), e) refl
