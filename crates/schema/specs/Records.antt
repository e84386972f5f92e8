-- The records of a pack by their table. Assumes nothing.
use Rattle.std.specs.Prelude.{ℕ, zero, suc, ◌+◌, ◌/◌, Bool, cond, List, length, ltb, eqb}
use Rattle.schema.specs.declared.index.RouteDirection.{RouteDirection}
use Rattle.schema.specs.declared.index.RouteDirection.TheVariants.{Inbound, Outbound}
use Rattle.schema.specs.declared.index.TimingDomain.{TimingDomain}
use Rattle.schema.specs.declared.index.TimingDomain.TheVariants.{Logical, Physical}
use Rattle.schema.specs.Bytes.{byte_of}

-- the records of a pack, at most as many as the pack's limit has
abbrev pub records_of : List ℕ → ℕ
records_of p = cond (ltb (length p / 64) 65536) (length p / 64) 65536

-- record n is of table t
abbrev pub is_of : List ℕ → ℕ → ℕ → Bool
is_of p t n = eqb (byte_of p n 0) t

-- how many numbers below n pass a test
unfoldable pub count_below : (ℕ → Bool) → ℕ → ℕ
count_below f zero = 0
count_below f (suc n) = count_below f n + cond (f n) 1 0

-- 0 inbound, 1 outbound; 0 logical, 1 physical
abbrev pub direction_number : RouteDirection → ℕ
direction_number Inbound = 0
direction_number Outbound = 1

abbrev pub domain_number : TimingDomain → ℕ
domain_number Logical = 0
domain_number Physical = 1
