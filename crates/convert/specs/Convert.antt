-- What the converter answers, and what it leaves in the output (document 02, Wish 6). Assumes nothing.
use Rattle.std.specs.Prelude.{ℕ, ◌/◌, List, [], ◌∷◌, ◌++◌, leb, length, drop, Ok, Err}
use Rattle.answers.specs.declared.Refusal.TheVariants.{Length, TableOutOfPlace, StrayByte, OutputTooShort}
use Rattle.answers.specs.Checks.{Check, need, run, Outcome}
use Rattle.packing.specs.declared.PackKind.{PackKind}
use Rattle.packing.specs.Clean.{clean}
use Rattle.packing.specs.Packing.{pack_fits, in_place}
use Rattle.convert.specs.Turned.{turned}

-- the table order and stray byte rules for record n
unfoldable pub shape_checks : PackKind → List ℕ → ℕ → List Check
shape_checks kind p n = need (in_place kind p n) (TableOutOfPlace n) ∷ need (clean p n) (StrayByte n) ∷ []

-- "1, then 34 output too short, then 3 and 4 record by record on the turned pack"; the output has `room` bytes
unfoldable pub convert_checks : PackKind → List ℕ → ℕ → List Check
convert_checks kind p room =
    need (pack_fits p) Length
    ∷ need (leb (length p) room) OutputTooShort
    ∷ run (shape_checks kind (turned p)) 0 (length p / 64)

-- "on success the output's first bytes, as many as the pack has, are the result and the rest are unchanged; on refusal all are unchanged"
abbrev pub output_after : Outcome → List ℕ → List ℕ → List ℕ
output_after (Ok u) p out = turned p ++ drop (length p) out
output_after (Err r) p out = out
