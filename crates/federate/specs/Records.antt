-- The records of a federate pack by their table, and the pack of each enclave in it (document 01, "The pack"). Assumes nothing.
use Rattle.std.specs.Prelude.{ℕ, zero, suc, ◌-◌, ◌*◌, cond, List, take, drop, ltb, Option}
use Rattle.std.specs.Bool.{then_some}
use Rattle.schema.specs.Records.{records_of, is_of, count_below}

-- the enclaves before record n, and those of the pack
abbrev pub enclaves_before : List ℕ → ℕ → ℕ
enclaves_before p n = count_below (is_of p 1) n

abbrev pub enclaves_of : List ℕ → ℕ
enclaves_of p = enclaves_before p (records_of p)

-- the last enclave's record before record n, and where there is one
unfoldable pub enclave_before : List ℕ → ℕ → ℕ
enclave_before p zero = 0
enclave_before p (suc n) = cond (is_of p 1 n) n (enclave_before p n)

abbrev pub last_before : List ℕ → ℕ → Option ℕ
last_before p n = then_some (ltb 0 (enclaves_before p n)) (enclave_before p n)

-- the first enclave's record from n on, or n + k where none of k records is one
unfoldable pub enclave_from : List ℕ → ℕ → ℕ → ℕ
enclave_from p n zero = n
enclave_from p n (suc k) = cond (is_of p 1 n) n (enclave_from p (suc n) k)

-- the enclave of record n ends where the next one begins, or the pack ends
abbrev pub enclave_end : List ℕ → ℕ → ℕ
enclave_end p n = enclave_from p (suc n) (records_of p - suc n)

-- its pack
abbrev pub enclave_pack : List ℕ → ℕ → List ℕ
enclave_pack p n = take ((enclave_end p n - n) * 64) (drop (n * 64) p)
