-- Two packs of one length whose records are of the same tables: their tables begin at the same records. Assumes nothing.
use Prim.Native.Nat.{ℕ, zero, suc, ◌+◌}
use mathlib.Core.Path.{◌≡◌, refl, fun_ext}
use mathlib.Core.List.{List}
use lib.ListN.{length}
use Rattle.schema.specs.Bytes.{byte_of}
use Rattle.schema.specs.Records.{records_of, is_of}
use Rattle.schema.specs.Tables.{tables}
use Rattle.packing.specs.Starts.{first_reaching, starts_below, table_starts}

pub record SameTables (p q : List ℕ) : Type 0 where
  pub lengths : length q ≡ length p
  pub tables : (n : ℕ) → byte_of q n 0 ≡ byte_of p n 0

module _ (p q : List ℕ) (s : SameTables p q) where
  pub same_records : records_of q ≡ records_of p
  same_records = rw s.lengths

  pub same_test : (t n : ℕ) → is_of q t n ≡ is_of p t n
  same_test t n = rw (s.tables n)

  pub same_tests : (t : ℕ) → is_of q t ≡ is_of p t
  same_tests t = fun_ext (same_test t)

  same_first : (t k f : ℕ) → first_reaching q t k f ≡ first_reaching p t k f
  unfolding first_reaching
  same_first t k zero = refl
  same_first t k (suc f) = rw (s.lengths, s.tables k, same_first t (k + 1) f)

  same_below : (rows k : ℕ) → starts_below q rows k ≡ starts_below p rows k
  unfolding starts_below
  same_below rows zero = refl
  same_below rows (suc k) = rw (same_below rows k, s.lengths, same_first k rows (records_of p))

  pub same_starts : (rows : ℕ) → table_starts q rows ≡ table_starts p rows
  unfolding table_starts
  same_starts rows = same_below rows (suc tables)
