-- What document 02 promises of the converter (Wish 6). Assumes nothing.
use Rattle.std.specs.Prelude.{ℕ, ◌+◌, ◌*◌, ◌<◌, ◌≤◌, ◌≡◌, List, length}
use Rattle.answers.specs.Checks.{first, passed}
use Rattle.schema.specs.Layout.{bytes, offset, field_at}
use Rattle.schema.specs.Bytes.{IsRecord, byte_of}
use Rattle.schema.specs.Rows.{field}
use Rattle.packing.specs.declared.PackKind.{PackKind}
use Rattle.packing.specs.Shape.{layout_of, used}
use Rattle.convert.specs.Turned.{turned, low_first}
use Rattle.convert.specs.Convert.{convert_checks}

-- the converter takes p, with an output of `room` bytes
abbrev pub Taken : PackKind → List ℕ → ℕ → Type 0
Taken kind p room = first (convert_checks kind p room) ≡ passed

-- "converting twice gives the first pack for every pack it takes"
abbrev pub Twice : Type 0
Twice = (kind : PackKind) (p : List ℕ) (room : ℕ) → Taken kind p room → turned (turned p) ≡ p

-- "what it gives it also takes"
abbrev pub GivesTakes : Type 0
GivesTakes = (kind : PackKind) (p : List ℕ) (room : ℕ) → Taken kind p room → Taken kind (turned p) room

-- "the turning is proved for both number lengths together": each number of the result, of 4 bytes or of 8, is that of the pack's bytes there, low byte first
abbrev pub TurnsNumbers : Type 0
TurnsNumbers =
    (p : List ℕ) (n k : ℕ) → IsRecord p n → k < length (layout_of (byte_of p n 0)).fields
    → field (turned p) n (layout_of (byte_of p n 0)) k
    ≡ low_first (bytes (field_at (layout_of (byte_of p n 0)) k)) p (n * 64 + offset (layout_of (byte_of p n 0)) k)

-- bytes 0 to 3 and those past the numbers keep their place, and there are as many bytes
abbrev pub KeepsRest : Type 0
KeepsRest =
    (p : List ℕ)
    → (length (turned p) ≡ length p)
    × ((n j : ℕ) → IsRecord p n → j < 4 → byte_of (turned p) n j ≡ byte_of p n j)
    × ((n j : ℕ) → IsRecord p n → used (layout_of (byte_of p n 0)) ≤ j → j < 64 → byte_of (turned p) n j ≡ byte_of p n j)
