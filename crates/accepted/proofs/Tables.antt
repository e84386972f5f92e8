-- Tables lie between a pack's first record and its last, so they have fewer rows than the limit has records. Assumes nothing.
use Prim.Native.Nat.{ℕ, ◌+◌, ◌<◌, ◌≤◌}
use mathlib.Core.Path.{◌≡◌, ◌∙◌}
use mathlib.Core.List.{List}
use native.Mathlib.Decide.{dec_le}
use native.Mathlib.Omega.{arith}
use Rattle.std.proofs.lemmas.List.{get_or_past}
use Rattle.schema.specs.Tables.{tables, start_of, rows_of}
use Rattle.schema.specs.Records.{records_of}
use Rattle.schema.proofs.Counts.{records_few}
use Rattle.packing.specs.Starts.{first_reaching, table_starts}
use Rattle.packing.proofs.TableStarts.{starts-at, starts_from, starts-within, starts_length}
use Rattle.federate.specs.Records.{enclave_pack}
use Rattle.accepted.specs.Tables.{NoTableTooLarge, NoTableTooLargeInLine, LengthsFit}

module _ (p : List ℕ) where
  -- a table starts at record 1 or later, and at 65,536 at the latest
  start_none : (t : ℕ) → t ≤ tables → records_of p ≡ 0 → start_of (table_starts p 1) t ≡ 1
  unfolding first_reaching
  start_none t l e = starts-at p 1 t l ∙ rw e

  start_few : (t : ℕ) → t ≤ tables → start_of (table_starts p 1) t ≤ 65536
  start_few t l =
      let f = records_few p in
      elim (dec_le 1 (records_of p)) [
        | yes g ↦ (let w = starts-within p 1 t l g in omega arith)
        | no g ↦ (let z = start_none t l (omega arith) in omega arith)
      ]

  rows_few : (t : ℕ) → rows_of (table_starts p 1) t < 65536
  rows_few t =
      elim (dec_le tables t) [
        | yes g ↦ (let e = starts_length p 1 in let z = get_or_past (table_starts p 1) (t + 1) 0 (omega arith) in omega arith)
        | no g ↦ (let a = starts_from p 1 t (omega arith) in let b = start_few (t + 1) (omega arith) in omega arith)
      ]

pub no_table_too_large : NoTableTooLarge
no_table_too_large p batch house t = rows_few p t

pub no_table_too_large_in_line : NoTableTooLargeInLine
no_table_too_large_in_line p batch house n t = rows_few (enclave_pack p n) t

pub lengths_fit : LengthsFit
lengths_fit p batch house n t =
    let a = no_table_too_large p batch house t in
    let b = no_table_too_large_in_line p batch house n t in
    (omega arith, omega arith)
