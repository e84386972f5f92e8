-- What the check does not look at, field by field: packs that differ only there have one answer. Assumes nothing.
use Rattle.std.specs.Prelude.{ℕ, zero, suc, ◌+◌, ◌/◌, ◌%◌, ◌<◌, Bool, true, ◌&&◌, cond, ◌≡◌, List, [], ◌∷◌, ◌++◌, ltb, leb, eqb, length}
use Rattle.schema.specs.Layout as layout
use Rattle.schema.specs.Layout.{Layout, bytes, offset, field_at}
use Rattle.schema.specs.Bytes.{byte_of}
use Rattle.packing.specs.declared.PackKind.{PackKind}
use Rattle.packing.specs.declared.PackKind.TheVariants.{Enclave, Federate}
use Rattle.packing.specs.Packing.{Packed}
use Rattle.enclave.specs.Answer.{enclave_answer}
use Rattle.federate.specs.Answer.{federate_answer}

-- record n of a pack, byte by byte; 0 past its end
abbrev pub record_of : List ℕ → ℕ → ℕ → ℕ
record_of p n j = cond (ltb j 64) (byte_of p n j) 0

-- of the records of a table the bytes from `from` up to `to`, and what is looked at of byte j of such a record
pub record Hidden : Type 0 where
  pub table : ℕ
  pub from : ℕ
  pub to : ℕ
  pub left : (ℕ → ℕ) → ℕ → ℕ

-- byte j of table t, and field k of table t, whose layout is l
abbrev pub byte : ℕ → ℕ → ((ℕ → ℕ) → ℕ → ℕ) → Hidden
byte t j left = record { table = t; from = j; to = j + 1; left = left }

abbrev pub field : ℕ → Layout → ℕ → ((ℕ → ℕ) → ℕ → ℕ) → Hidden
field t l k left = record { table = t; from = offset l k; to = offset l k + bytes (field_at l k); left = left }

-- what is left of a byte: nothing, its lowest bit, all but its lowest bit; of a kind, 0 and 1 as one
abbrev pub nothing : (ℕ → ℕ) → ℕ → ℕ
nothing r j = 0

abbrev pub lowest_bit : (ℕ → ℕ) → ℕ → ℕ
lowest_bit r j = r j % 2

abbrev pub other_bits : (ℕ → ℕ) → ℕ → ℕ
other_bits r j = r j / 2

abbrev pub one_kind : (ℕ → ℕ) → ℕ → ℕ
one_kind r j = cond (ltb (r j) 2) 0 (r j)

-- and of a deadline's nanoseconds, whether they are zero
abbrev pub zero_bytes : (ℕ → ℕ) → ℕ → ℕ → Bool
zero_bytes r o zero = true
zero_bytes r o (suc k) = zero_bytes r o k && eqb (r (o + k)) 0

abbrev pub zero_or_not : (ℕ → ℕ) → ℕ → ℕ
zero_or_not r j = cond (zero_bytes r (offset layout.deadlines 1) 8) 1 0

-- the list for stations and lines; the packing rules give a period's bit to timers only, and a shutdown's delay no value but 0
abbrev pub everywhere : List Hidden
everywhere =
    -- the storage numbers other than the slot bounds: event capacity, payload bytes, state bytes, scratch bytes
    field 1 layout.enclave 4 nothing
    ∷ field 1 layout.enclave 5 nothing
    ∷ field 1 layout.enclave 6 nothing
    ∷ field 1 layout.enclave 7 nothing
    -- an action's minimum delay or period
    ∷ field 3 layout.actions 3 nothing
    -- a standard action's domain
    ∷ byte 3 2 one_kind
    -- a timer's period bit
    ∷ byte 3 1 lowest_bit
    -- a reaction's external effect
    ∷ byte 5 1 other_bits
    -- reset or history
    ∷ byte 5 2 nothing
    -- startup delays
    ∷ field 15 layout.startups 1 nothing
    ∷ field 19 layout.startups 1 nothing
    ∷ field 20 layout.startups 1 nothing
    -- deadlines that are not zero
    ∷ field 25 layout.deadlines 1 zero_or_not
    ∷ []

-- for stations only
abbrev pub of_routes : List Hidden
of_routes =
    -- a route's domain
    byte 23 2 lowest_bit
    -- a route's delay
    ∷ field 23 layout.routes 3 nothing
    ∷ []

abbrev pub unlooked : PackKind → List Hidden
unlooked Enclave = everywhere ++ of_routes
unlooked Federate = everywhere

-- u hides something of byte j of a record of table t
abbrev pub hides : Hidden → ℕ → ℕ → Bool
hides u t j = eqb u.table t && (leb u.from j && ltb j u.to)

-- byte j of the record r as the check looks at it, by what is hidden
abbrev pub looked_by : List Hidden → (ℕ → ℕ) → ℕ → ℕ
looked_by [] r j = r j
looked_by (u ∷ us) r j = cond (hides u (r 0) j) (u.left r j) (looked_by us r j)

abbrev pub looked : PackKind → List ℕ → ℕ → ℕ → ℕ
looked kind p n j = looked_by (unlooked kind) (record_of p n) j

-- two packs that differ only in what the check does not look at
abbrev pub DifferUnlooked : PackKind → List ℕ → List ℕ → Type 0
DifferUnlooked kind p q =
    (length q ≡ length p)
    × ((n j : ℕ) → j < 64 → looked kind q n j ≡ looked kind p n j)

-- one and the same answer for stations, links and refusal numbers included
abbrev pub EnclaveAnswerSame : Type 0
EnclaveAnswerSame =
    (p q batch house : List ℕ) → Packed Enclave p batch house → Packed Enclave q batch house
    → DifferUnlooked Enclave p q
    → enclave_answer q batch house ≡ enclave_answer p batch house

-- and for lines, where routes are looked at whole
abbrev pub FederateAnswerSame : Type 0
FederateAnswerSame =
    (p q batch house : List ℕ) → Packed Federate p batch house → Packed Federate q batch house
    → DifferUnlooked Federate p q
    → federate_answer q batch house ≡ federate_answer p batch house
