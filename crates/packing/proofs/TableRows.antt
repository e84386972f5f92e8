-- Where a pack's records rise by table, as in an enclave's pack that passes the packing rules, the rows of a table are the records of that table.
-- Assumes nothing.
use Prim.Native.Nat.{ℕ, zero, suc, ◌+◌, ◌/◌, ◌<◌, ◌≤◌}
use mathlib.Core.Bool.{true, false}
use mathlib.Core.Path.{◌≡◌, sym}
use mathlib.Core.List.{List}
use native.Mathlib.Decide.{dec_le}
use native.Mathlib.Omega.{arith}
use lib.ListN.{length}
use borrow.Author.Tests.{leb-true, lt-ltb, le-ltb}
use Rattle.identity.proofs.Tests.{cases}
use Rattle.schema.specs.Bytes.{byte_of}
use Rattle.schema.specs.Tables.{tables, start_of, rows_of}
use Rattle.packing.specs.declared.PackKind.TheVariants.{Enclave}
use Rattle.packing.specs.Packing.{Packed}
use Rattle.schema.specs.Records.{records_of}
use Rattle.packing.specs.Starts.{reaches, first_reaching, table_starts}
use Rattle.packing.specs.TableRows.{IsRow, RowsByByte}
use Rattle.packing.proofs.TableStarts.{not-reached, reached-row, starts-at, starts_from, starts-within}
use Rattle.packing.proofs.Records.{records_all, some_record}
use Rattle.packing.proofs.Packed.{fits, rows_above}

module _ (p : List ℕ) (t : ℕ) where
  -- no record before the first one reaches table t; that one does, or is past those looked at
  before_first : (f a k : ℕ) → a ≤ k → k < first_reaching p t a f → reaches p t k ≡ false
  unfolding first_reaching
  before_first zero a k l u = absurd (omega arith)
  before_first (suc f) a k l u =
      cases (reaches p t a)
      (λ r. let v = rw r at u in absurd (omega arith))
      (λ r. let v = rw r at u in elim (dec_le k a) [ yes g ↦ (let x : k ≡ a = omega arith in rw x r) | no g ↦ before_first f (a + 1) k (omega arith) v ])

  at_first : (f a : ℕ) → first_reaching p t a f < a + f → reaches p t (first_reaching p t a f) ≡ true
  unfolding first_reaching
  at_first zero a u = absurd (omega arith)
  at_first (suc f) a u = cases (reaches p t a) (λ r. rw r r) (λ r. let v = rw r at u in rw r (at_first f (a + 1) (omega arith)))

-- a table of which the pack has no record has no row
pub no_rows : (p : List ℕ) (t : ℕ) → t < tables → ((k : ℕ) → byte_of p k 0 ≡ t → ⊥) → rows_of (table_starts p 1) t ≡ 0
no_rows p t known none =
    elim (dec_le (start_of (table_starts p 1) (t + 1)) (start_of (table_starts p 1) t)) [
      | yes g ↦ omega arith
      | no g ↦
          let s = start_of (table_starts p 1) t in
          let e = starts-at p 1 t (omega arith) in
          let above : s < start_of (table_starts p 1) (t + 1) = omega arith in
          let u = before_first p (t + 1) (records_of p) 1 s (starts_from p 1 t (omega arith)) (rw (starts-at p 1 (t + 1) (omega arith)) at above) in
          let b = not-reached p (t + 1) s u in
          let inside : s < 1 + records_of p = (let k = b.0 in omega arith) in
          let r = rw (sym e) at (at_first p t (records_of p) 1 (rw e at inside)) in
          let l = reached-row p (t + 1) t s u r in
          let same : byte_of p s 0 ≡ t = (let k = b.1 in omega arith) in
          absurd (none s same)
    ]

-- a pack with a record, all of whose records are looked at; those after the first are of the tables from 2 on, and rise
pub record RowsRise (p : List ℕ) : Type 0 where
  pub some : 1 ≤ records_of p
  pub all : records_of p ≡ length p / 64
  pub above : (n : ℕ) → suc n < length p / 64 → (2 ≤ byte_of p (suc n) 0) × (byte_of p n 0 ≤ byte_of p (suc n) 0)

module _ (p : List ℕ) (up : RowsRise p) where
  abbrev start : ℕ → ℕ
  start t = start_of (table_starts p 1) t

  row_table : (n : ℕ) → 1 ≤ n → n < length p / 64 → 2 ≤ byte_of p n 0
  row_table zero l u = absurd (omega arith)
  row_table (suc n) l u = (up.above n u).0

  rise : (j k : ℕ) → j ≤ k → k < length p / 64 → byte_of p j 0 ≤ byte_of p k 0
  rise j zero l u = let x : j ≡ 0 = omega arith in rw x (omega arith)
  rise j (suc k) l u =
      let i = rise j k in
      elim (dec_le j k) [
        | yes g ↦ (let e = i g (omega arith) in let r = (up.above k u).1 in omega arith)
        | no g ↦ (let x : j ≡ suc k = omega arith in rw x (omega arith))
      ]

  -- a record from table t's start on is of table t or a later one; one before that start is not
  from_start : (t n : ℕ) → t ≤ tables → start t ≤ n → n < length p / 64 → t ≤ byte_of p n 0
  from_start t n k l u =
      let e = starts-at p 1 t k in
      let f = starts_from p 1 t k in
      let r = up.all in
      let low = row_table (start t) f (omega arith) in
      let a = at_first p t (records_of p) 1 (rw (sym e) (omega arith)) in
      let b = rise (start t) n l u in
      let c = rw (lt-ltb (start t) (records_of p) (omega arith), le-ltb (byte_of p (start t) 0) 2 low) at (rw (sym e) at a) in
      let g = leb-true t (byte_of p (start t) 0) c in
      omega arith

  before_start : (t n : ℕ) → t ≤ tables → 1 ≤ n → n < start t → byte_of p n 0 < t
  before_start t n k l u = (not-reached p t n (before_first p t (records_of p) 1 n l (rw (starts-at p 1 t k) at u))).1

  row_is : (t n : ℕ) → t < tables → IsRow p t n → (1 ≤ n) × (n < length p / 64) × (byte_of p n 0 ≡ t)
  row_is t n k r =
      let f = starts_from p 1 t (omega arith) in
      let w = starts-within p 1 (t + 1) (omega arith) up.some in
      let e = up.all in
      let l : (1 ≤ n) × (n < length p / 64) = (omega (arith, r.0), omega (arith, r.1)) in
      let a = from_start t n (omega arith) r.0 l.1 in
      let b = before_start (t + 1) n (omega arith) l.0 r.1 in
      (l.0, l.1, omega arith)

  record_is : (t n : ℕ) → t < tables → (1 ≤ n) × (n < length p / 64) × (byte_of p n 0 ≡ t) → IsRow p t n
  record_is t n k (l, u, e) = (
    elim (dec_le (start t) n) [ yes y ↦ y | no y ↦ absurd (let b = before_start t n (omega arith) l (omega arith) in omega arith) ],
    elim (dec_le (start (t + 1)) n) [ yes y ↦ absurd (let b = from_start (t + 1) n (omega arith) y u in omega arith) | no y ↦ omega arith ],
  )

  pub rows_of_tables : RowsByByte p
  rows_of_tables t n k = (row_is t n k, record_is t n k)

-- so are the rows of an enclave's pack that passes the packing rules
pub rows_rise : (p batch house : List ℕ) → Packed Enclave p batch house → RowsRise p
rows_rise p batch house h =
    let f = fits Enclave p batch house h in
    record { some = some_record p f.some f.whole; all = records_all p f.few; above = rows_above p batch house h }

pub rows_by_byte : (p batch house : List ℕ) → Packed Enclave p batch house → RowsByByte p
rows_by_byte p batch house h = rows_of_tables p (rows_rise p batch house h)
