-- Rows that lie inside, ranges that fit, and lists whose first entries pass. Assumes nothing.
use Rattle.std.proofs.Common.{ℕ, ◌+◌, ◌-◌, ◌<◌, ◌≤◌, ◌≡◌, ◌∙◌, ◌&&◌, ◌∷◌, [], Bool, true, false, cond, List, refl, sym, arith, ltb, leb}
use mathlib.Core.Bool.{true≢false}
use borrow.Author.Tests.{ltb-true}
use Rattle.answers.specs.declared.Refusal.{Refusal}
use Rattle.std.specs.Prelude.{Result, Ok, Err}
use Rattle.answers.specs.Checks.{Check, need, first, Decides, Outcome, passed}
use Rattle.answers.proofs.Passed.{Passes, below}
use Rattle.range.specs.declared.SliceRange.{SliceRange}
use Rattle.range.specs.Range.{checked_end}
use Rattle.schema.specs.Tables.{tables, start_of, rows_of, IsRising}
use Rattle.schema.proofs.Tables.{row_inside}
use Rattle.checks.specs.declared.refs.Found.{Found}
use Rattle.answers.specs.declared.field.RowField.{RowField}
use Rattle.answers.specs.declared.field.Field.{Field}
use Rattle.checks.specs.Refs.{looked_up, end_within, span_checks, range_checks}

-- a row that its table has lies before the end of all tables
pub row-below : (s : List ℕ) → IsRising s → (t i : ℕ) → t < tables → i < rows_of s t → start_of s t + i < start_of s tables
row-below s up t i known h = row_inside s t i (start_of s t + i) up known refl h

-- a reference whose check passes is to a row that its table has
pub passed-row : (v m : ℕ) {r : Refusal} {o : Outcome} → Decides (need (ltb v m) r ∷ []) o → o ≡ passed → v < m
passed-row v m {r} d e = let h : Passes (need (ltb v m) r ∷ []) = record { is = sym d.is ∙ e } in below h

-- so does one that was looked up, among m records if the tables end there
module _ {K : Type 0} (s : List ℕ) (at : RowField) (g v m : ℕ) (key : K) (found : Found K) where
  is-row : (b : Bool) (r : Refusal) → ◌≡◌ {A = Result (Found K) Refusal} (cond b (Ok (record { key = key; record_number = start_of s g + v })) (Err r)) (Ok found) → (b ≡ true) × (start_of s g + v ≡ found.record_number)
  is-row true r e = (refl, cc)
  is-row false r e = let z : ◌≡◌ {A = Bool} true false = cc in absurd (true≢false z)

  pub found-inside : IsRising s → start_of s tables ≤ m → g < tables → looked_up s at g key v ≡ Ok found → found.record_number < m
  found-inside up inside known e =
      let row = is-row (ltb v (rows_of s g)) _ e in
      let h = row-below s up g v known (ltb-true v (rows_of s g) row.0) in
      omega (arith, h, row.1)

-- a range that fits among the k rows of its table g
two : (a b : Bool) (r s : Refusal) → a && b ≡ true → first (need a r ∷ need b s ∷ []) ≡ passed
unfolding first
two true true r s e = refl
two true false r s e = absurd (true≢false (sym e))
two false b r s e = absurd (true≢false (sym e))

pub fits-passes : (rows : ℕ → ℕ) {k : ℕ} (range : SliceRange) (previous : ℕ) {b : Bool} (t i : ℕ) (f : Field) (g : ℕ) → b ≡ (end_within (checked_end range.start range.len) k && leb previous range.start) → k ≡ rows g → b ≡ true → Decides (range_checks rows t i f g range previous) passed
unfolding span_checks
fits-passes rows range previous t i f g d e h = record { is = sym (two _ _ _ _ (rw (← e) (sym d ∙ h))) }

-- the first k of n lists of checks pass
pub record PassedOver (f : ℕ → List Check) (n k : ℕ) : Type 0 where
  pub within : k ≤ n
  pub passed : (j : ℕ) → j < k → first (f j) ≡ passed

-- the first k items pass, and `before` is read as the entry before k
pub record Passing {A B : Type 0} (f : ℕ → List Check) (entries : ℕ → A) (read : B → A) (n k : ℕ) (before : B) : Type 0 where
  pub over : PassedOver f n k
  pub last : (k ≡ 0 → ⊥) → read before ≡ entries (k - 1)
