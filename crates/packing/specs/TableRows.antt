-- What the rows of a table are, by the bytes of a pack. Assumes nothing.
use Rattle.std.specs.Prelude.{ℕ, ◌+◌, ◌/◌, ◌<◌, ◌≤◌, ◌≡◌, ◌↔◌, List, length}
use Rattle.schema.specs.Bytes.{byte_of}
use Rattle.schema.specs.Tables.{tables, start_of}
use Rattle.packing.specs.Starts.{table_starts}

-- record n is a row of table t in the enclave's pack p
abbrev pub IsRow : List ℕ → ℕ → ℕ → Type 0
IsRow p t n = (start_of (table_starts p 1) t ≤ n) × (n < start_of (table_starts p 1) (t + 1))

-- the rows of each table are the records after the enclave's own whose first byte is the table's number
abbrev pub RowsByByte : List ℕ → Type 0
RowsByByte p = (t n : ℕ) → t < tables → IsRow p t n ↔ ((1 ≤ n) × (n < length p / 64) × (byte_of p n 0 ≡ t))
