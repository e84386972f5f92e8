-- How many other reactions a reaction reaches, and what the lent bytes hold after that question (document 02, Wishes 4 and 11). Assumes nothing.
use Rattle.std.specs.Prelude.{ℕ, List, [], ◌∷◌, ◌++◌, length, leb}
use Rattle.answers.specs.declared.Refusal.TheVariants.{ScratchTooShort}
use Rattle.answers.specs.declared.field.Field.TheVariants as field
use Rattle.answers.specs.Checks.{Check, need, first}
use Rattle.schema.specs.Records.{count_below}
use Rattle.checks.specs.Image.{Image}
use Rattle.checks.specs.Refs.{ref_to}
use Rattle.enclave.specs.Answer.{unless, left_by, pack_image}
use Rattle.rising.specs.declared.marks.Marks.{Marks}
use Rattle.rising.specs.Rising.{station_checks}
use Rattle.rising.specs.Reach.{others}
use Rattle.rising.specs.Marks.{room, marked}

-- the reaction is there, and the lent bytes are long enough
abbrev pub asked_checks : Marks → Image → ℕ → List ℕ → List Check
asked_checks k m r scratch =
    ref_to m.rows 5 0 field.Reaction 5 r
    ∷ need (leb (room k (m.rows 5)) (length scratch)) ScratchTooShort
    ∷ []

-- how many reactions other than r reaction r reaches
abbrev pub reach_count : Image → ℕ → ℕ
reach_count m r = count_below (others m r) (m.rows 5)

-- the answer for an image whose levels rise, and what the lent bytes hold after it: the marks, or what they held
abbrev pub image_reach : Marks → Image → ℕ → List ℕ → List ℕ
image_reach k m r scratch = unless (first (asked_checks k m r scratch)) (0 ∷ reach_count m r ∷ [])

abbrev pub image_scratch : Marks → Image → ℕ → List ℕ → List ℕ
image_scratch k m r scratch = left_by (first (asked_checks k m r scratch)) (marked k (others m r) (m.rows 5) scratch) scratch

-- the whole order: the station, its levels, what is asked
unfoldable pub reach_checks : Marks → List ℕ → List ℕ → List ℕ → ℕ → List ℕ → List Check
reach_checks k p batch house r scratch = station_checks p batch house ++ asked_checks k (pack_image p batch house) r scratch

unfoldable pub reach_answer : Marks → List ℕ → List ℕ → List ℕ → ℕ → List ℕ → List ℕ
reach_answer k p batch house r scratch =
    unless (first (reach_checks k p batch house r scratch)) (0 ∷ reach_count (pack_image p batch house) r ∷ [])

unfoldable pub scratch_after : Marks → List ℕ → List ℕ → List ℕ → ℕ → List ℕ → List ℕ
scratch_after k p batch house r scratch =
    let m = pack_image p batch house in
    left_by (first (reach_checks k p batch house r scratch)) (marked k (others m r) (m.rows 5) scratch) scratch
