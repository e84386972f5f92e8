-- Where each table of an enclave begins in its pack. Assumes nothing.
use Rattle.std.specs.Prelude.{ℕ, ◌+◌, ◌-◌, ◌/◌, ◌<◌, ◌≤◌, List, get_or, length}

-- how many tables there are: 0 to 25
abbrev pub tables : ℕ
tables = 26

-- s holds the record number of each table's first row, and of the enclave's end; table t has the rows up to the next table's first
abbrev pub start_of : List ℕ → ℕ → ℕ
start_of s t = get_or s t 0

abbrev pub rows_of : List ℕ → ℕ → ℕ
rows_of s t = get_or s (t + 1) 0 - get_or s t 0

-- the starts s rise from table to table
abbrev pub IsRising : List ℕ → Type 0
IsRising s = (t : ℕ) → t < tables → get_or s t 0 ≤ get_or s (t + 1) 0

-- the tables that begin at s end inside the pack p
abbrev pub EndsInside : List ℕ → List ℕ → Type 0
EndsInside p s = get_or s tables 0 ≤ length p / 64
