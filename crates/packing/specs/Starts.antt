-- Where each table of an enclave begins. Assumes nothing.
use Rattle.std.specs.Prelude.{ℕ, zero, suc, ◌+◌, Bool, not, ◌||◌, cond, List, [], ◌∷◌, ◌++◌, ltb, leb}
use Rattle.schema.specs.Bytes.{byte_of}
use Rattle.schema.specs.Records.{records_of}
use Rattle.schema.specs.Tables.{tables}

-- record k is table t's first in its enclave, or past it: of table t or a later one, or of another enclave, or past the pack
abbrev pub reaches : List ℕ → ℕ → ℕ → Bool
reaches p t k = not (ltb k (records_of p)) || (ltb (byte_of p k 0) 2 || leb t (byte_of p k 0))

-- the first of the records k, k + 1, .. that reaches table t, f records looked at
unfoldable pub first_reaching : List ℕ → ℕ → ℕ → ℕ → ℕ
first_reaching p t k zero = k
first_reaching p t k (suc f) = cond (reaches p t k) k (first_reaching p t (k + 1) f)

-- where table t begins, in the enclave whose rows start at record `rows`
abbrev pub table_start : List ℕ → ℕ → ℕ → ℕ
table_start p rows t = first_reaching p t rows (records_of p)

-- the starts of the tables below k
unfoldable pub starts_below : List ℕ → ℕ → ℕ → List ℕ
starts_below p rows zero = []
starts_below p rows (suc k) = starts_below p rows k ++ (table_start p rows k ∷ [])

-- the starts of all tables, and the enclave's end
unfoldable pub table_starts : List ℕ → ℕ → List ℕ
table_starts p rows = starts_below p rows (suc tables)
