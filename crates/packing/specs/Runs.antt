-- Runs of clean records of one table. Assumes nothing.
use Rattle.std.specs.Prelude.{ℕ, ◌<◌, ◌≤◌, true, false, ◌≡◌, List}
use Rattle.schema.specs.Bytes.{byte_of}
use Rattle.packing.specs.Clean.{clean}

-- the records from n up to r are of table t and clean, and below the limit r is not one more
pub record CleanRun (p : List ℕ) (t n limit r : ℕ) : Type 0 where
  pub after : n ≤ r
  pub inside : r ≤ limit
  pub same : (j : ℕ) → n ≤ j → j < r → byte_of p j 0 ≡ t
  pub tidy : (j : ℕ) → n ≤ j → j < r → clean p j ≡ true
  pub ended : r < limit → byte_of p r 0 ≡ t → clean p r ≡ false
