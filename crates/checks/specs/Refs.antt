-- References, ranges and spans: the checks that rows' checks are made of (view.rs, `check_*`). Assumes nothing.
use Rattle.std.specs.Prelude.{ℕ, ◌+◌, ◌-◌, Bool, false, cond, List, [], ◌∷◌, ltb, leb, eqb, Option, Some, None, Result, Ok, Err}
use Rattle.range.specs.declared.SliceRange.{SliceRange}
use Rattle.range.specs.declared.IndexSpan.{IndexSpan}
use Rattle.range.specs.Range.{checked_end, saturating_end}
use Rattle.answers.specs.declared.field.RowField.{RowField}
use Rattle.answers.specs.declared.field.Field.{Field}
use Rattle.answers.specs.declared.Refusal.{Refusal}
use Rattle.answers.specs.declared.Refusal.TheVariants.{ReferenceOutOfBounds, RangeOutOfBounds, RangesNotMonotonic}
use Rattle.answers.specs.Fields.{row_field}
use Rattle.answers.specs.Checks.{Check, need}
use Rattle.schema.specs.Tables.{start_of, rows_of}
use Rattle.checks.specs.declared.refs.Found.{Found}

-- table g has no row v, to which a field refers: the refusal tells how many rows that table has
abbrev pub missing : (ℕ → ℕ) → RowField → ℕ → ℕ → Refusal
missing rows at g v = ReferenceOutOfBounds at g v (rows g)

-- row i of table t refers, in the field f, to row v of table g
abbrev pub ref_to : (ℕ → ℕ) → ℕ → ℕ → Field → ℕ → ℕ → Check
ref_to rows t i f g v = need (ltb v (rows g)) (missing rows (row_field t i f) g v)

-- what a lookup of that reference answers, where the tables begin at s: the key with the record number of its row, or the refusal
abbrev pub looked_up : {K : Type 0} → List ℕ → RowField → ℕ → K → ℕ → Result (Found K) Refusal
looked_up s at g key v = cond (ltb v (rows_of s g)) (Ok (record { key = key; record_number = start_of s g + v })) (Err (missing (rows_of s) at g v))

abbrev pub end_within : Option ℕ → ℕ → Bool
end_within (Some e) n = leb e n
end_within None n = false

-- the range or span of row i of table t in the field f lies in table g, and not before the end of the row before
unfoldable pub span_checks : (ℕ → ℕ) → ℕ → ℕ → Field → ℕ → ℕ → ℕ → ℕ → List Check
span_checks rows t i f g start len previous =
    need (end_within (checked_end start len) (rows g)) (RangeOutOfBounds (row_field t i f) g start len)
    ∷ need (leb previous start) (RangesNotMonotonic (row_field t i f) start previous)
    ∷ []

abbrev pub range_checks : (ℕ → ℕ) → ℕ → ℕ → Field → ℕ → SliceRange → ℕ → List Check
range_checks rows t i f g r previous = span_checks rows t i f g r.start r.len previous

-- where a range, or a span, ends
abbrev pub range_end : SliceRange → ℕ
range_end r = saturating_end r.start r.len

abbrev pub span_end : IndexSpan → ℕ
span_end r = saturating_end r.start r.len

-- where row i - 1's range ends; 0 before the first row
abbrev pub end_before : (ℕ → ℕ) → ℕ → ℕ
end_before end i = cond (eqb i 0) 0 (end (i - 1))
