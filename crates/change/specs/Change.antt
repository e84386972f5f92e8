-- One record of a line pack changed, or tried first (document 02, Wish 7). Assumes nothing.
use Rattle.std.specs.Prelude.{ℕ, ◌+◌, ◌*◌, ◌/◌, List, [], ◌∷◌, ◌++◌, take, drop, ltb, eqb, length, get_or}
use Rattle.answers.specs.declared.Refusal.TheVariants.{NoSuchRecord, RecordLength, TableChanges}
use Rattle.answers.specs.Checks.{Check, need, first, Outcome}
use Rattle.schema.specs.Bytes.{byte_of}
use Rattle.packing.specs.declared.PackKind.TheVariants.{Federate}
use Rattle.packing.specs.Packing.{packing_checks}
use Rattle.enclave.specs.Answer.{unless, left_by}
use Rattle.federate.specs.Records.{enclaves_of}
use Rattle.federate.specs.Federate.{federate_checks}
use Rattle.federate.specs.Answer.{federate_links}

-- the pack with the row in the place of record n's 64 bytes
unfoldable pub changed : List ℕ → ℕ → List ℕ → List ℕ
changed p n row = take (n * 64) p ++ (row ++ drop (n * 64 + 64) p)

-- the checks of a line pack: the packing rules, then the line's own
abbrev pub line_checks : List ℕ → List ℕ → List ℕ → List Check
line_checks p batch house = packing_checks Federate p batch house ++ federate_checks p batch house

-- "36 record not 64 bytes"
abbrev pub length_check : List ℕ → Check
length_check row = need (eqb (length row) 64) RecordLength

-- "35 no such record; 37 table number changes"
abbrev pub place_checks : List ℕ → ℕ → List ℕ → List Check
place_checks p n row =
    need (ltb n (length p / 64)) NoSuchRecord
    ∷ need (eqb (get_or row 0 0) (byte_of p n 0)) TableChanges
    ∷ []

-- in document 02's order: 36; the present line's own refusal; 35; 37; the new line's refusal
unfoldable pub change_checks : List ℕ → List ℕ → List ℕ → ℕ → List ℕ → List Check
change_checks p batch house n row =
    (length_check row ∷ [])
    ++ (line_checks p batch house
    ++ (place_checks p n row
    ++ line_checks (changed p n row) batch house))

-- what they answer
abbrev pub change_outcome : List ℕ → List ℕ → List ℕ → ℕ → List ℕ → Outcome
change_outcome p batch house n row = first (change_checks p batch house n row)

-- a line's yes: 0, its stations and its links
abbrev pub line_yes : List ℕ → List ℕ → List ℕ → List ℕ
line_yes p batch house = 0 ∷ enclaves_of p ∷ federate_links p batch house ∷ []

-- the answer: "the new line's yes", or the refusal
unfoldable pub change_answer : List ℕ → List ℕ → List ℕ → ℕ → List ℕ → List ℕ
change_answer p batch house n row = unless (change_outcome p batch house n row) (line_yes (changed p n row) batch house)

-- the pack after it: the row "is written .. exactly when no check refuses; otherwise the pack is untouched"
unfoldable pub pack_after : List ℕ → List ℕ → List ℕ → ℕ → List ℕ → List ℕ
pack_after p batch house n row = left_by (change_outcome p batch house n row) (changed p n row) p
