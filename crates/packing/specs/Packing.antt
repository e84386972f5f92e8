-- The packing rules in their order (document 01, "The pack" and "Packing"). Assumes nothing.
use Rattle.std.specs.Prelude.{ℕ, zero, suc, ◌*◌, ◌/◌, ◌%◌, Bool, ◌&&◌, ◌||◌, ◌≡◌, List, [], ◌∷◌, ltb, leb, eqb, false, true, length, Result, Ok, Err}
use Rattle.identity.specs.declared.IdentityPlace.{IdentityPlace}
use Rattle.identity.specs.Utf8.{utf8}
use Rattle.identity.specs.Text.{place_inside, identity_text}
use Rattle.answers.specs.declared.Refusal.{Refusal}
use Rattle.answers.specs.declared.Refusal.TheVariants.{Length, TextTooLong, TableOutOfPlace, StrayByte, IdentityOutside, NotUtf8}
use Rattle.answers.specs.Checks.{Check, need, first, run, Outcome, passed}
use Rattle.schema.specs.Bytes.{byte_of, bit_of}
use Rattle.schema.specs.Rows.{field, place}
use Rattle.schema.specs.Tables.{tables}
use Rattle.schema.specs.declared.lent.Pack.{Pack}
use Rattle.packing.specs.declared.PackKind.{PackKind}
use Rattle.packing.specs.declared.PackKind.TheVariants.{Enclave, Federate}
use Rattle.packing.specs.Shape.{layout_of}
use Rattle.packing.specs.Clean.{clean}

-- 64 to 4,194,304 bytes, whole records
abbrev pub pack_fits : List ℕ → Bool
pack_fits p = ltb 0 (length p) && (leb (length p) 4194304 && eqb (length p % 64) 0)

abbrev pub text_fits : List ℕ → Bool
text_fits t = leb (length t) 65536

-- a row of table t after a record of table u: a table from 2 on that is known, in rising order
abbrev pub row_after : ℕ → ℕ → Bool
row_after u t = leb 2 t && (ltb t tables && leb u t)

-- the first record's table, and the table t of a record after one of table u
abbrev pub first_table : PackKind → ℕ
first_table Enclave = 1
first_table Federate = 0

abbrev pub table_after : PackKind → ℕ → ℕ → Bool
table_after Enclave u t = row_after u t
table_after Federate u t = eqb t 1 || (leb 1 u && row_after u t)

-- record n's table number is in its place
abbrev pub in_place : PackKind → List ℕ → ℕ → Bool
in_place kind p zero = eqb (byte_of p 0 0) (first_table kind)
in_place kind p (suc n) = table_after kind (byte_of p n 0) (byte_of p (suc n) 0)

-- identity j of record n: its place, and its checks
abbrev pub identity_at : List ℕ → ℕ → ℕ → IdentityPlace
identity_at p n j = place (bit_of (byte_of p n 1) j) (field p n (layout_of (byte_of p n 0))) (2 * j)

unfoldable pub identity_checks : List ℕ → List ℕ → List ℕ → ℕ → ℕ → List Check
identity_checks p batch house n j =
    need (place_inside batch house (identity_at p n j)) (IdentityOutside n)
    ∷ need (utf8 (identity_text batch house (identity_at p n j))) (NotUtf8 n)
    ∷ []

unfoldable pub record_checks : PackKind → List ℕ → List ℕ → List ℕ → ℕ → List Check
record_checks kind p batch house n =
    need (in_place kind p n) (TableOutOfPlace n)
    ∷ need (clean p n) (StrayByte n)
    ∷ run (identity_checks p batch house n) 0 (layout_of (byte_of p n 0)).identities

unfoldable pub packing_checks : PackKind → List ℕ → List ℕ → List ℕ → List Check
packing_checks kind p batch house =
    need (pack_fits p) Length
    ∷ need (text_fits batch) (TextTooLong false)
    ∷ need (text_fits house) (TextTooLong true)
    ∷ run (record_checks kind p batch house) 0 (length p / 64)

-- a pack that passes the packing rules with the texts lent
abbrev pub Packed : PackKind → List ℕ → List ℕ → List ℕ → Type 0
Packed kind p batch house = first (packing_checks kind p batch house) ≡ passed

-- the outcome of an answer that lends the pack where it passes
abbrev pub pack_outcome : Result Pack Refusal → Outcome
pack_outcome (Ok pack) = passed
pack_outcome (Err r) = Err r
