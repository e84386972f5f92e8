-- Which reactor a mode of an accepted station belongs to (document 02, Wish 9). Assumes nothing.
use Rattle.std.specs.Prelude.{ℕ, zero, suc, ◌+◌, ◌<◌, ◌≡◌, Bool, true, false, cond, List, [], ◌∷◌, ◌++◌, Result, Ok, Err}
use Rattle.answers.specs.declared.Refusal.{Refusal}
use Rattle.answers.specs.declared.field.Field.TheVariants as field
use Rattle.answers.specs.Numbers.{numbers}
use Rattle.answers.specs.Checks.{Check, first}
use Rattle.schema.specs.Indexes.{ReactorIndex}
use Rattle.packing.specs.declared.PackKind.TheVariants.{Enclave}
use Rattle.packing.specs.Packing.{packing_checks}
use Rattle.checks.specs.Image.{Image}
use Rattle.checks.specs.Refs.{ref_to}
use Rattle.enclave.specs.Passes.{enclave_checks}
use Rattle.enclave.specs.Answer.{unless, pack_image}
use Rattle.accepted.specs.Modes.{owner_of, holds}
use Rattle.accepted.specs.Worth.{Accepted}

-- those of the first n rows for which f holds, in order: f is asked of each
unfoldable pub holders : (ℕ → Bool) → ℕ → List ℕ
holders f zero = []
holders f (suc n) = holders f n ++ cond (f n) (n ∷ []) []

-- the station's checks, then that mode j is there
abbrev pub owner_checks : Image → ℕ → List Check
owner_checks m j = enclave_checks m ++ (ref_to m.rows 6 0 field.Mode 6 j ∷ [])

-- 0 and the reactors whose span holds mode j, after those checks
abbrev pub image_owner : Image → ℕ → List ℕ
image_owner m j = unless (first (owner_checks m j)) (0 ∷ holders (holds m j) (m.rows 2))

-- the answer for a pack: packing first
unfoldable pub owner_answer : List ℕ → List ℕ → List ℕ → ℕ → List ℕ
owner_answer p batch house j = unless (first (packing_checks Enclave p batch house)) (image_owner (pack_image p batch house) j)

-- the numbers of an answer: 0 and the one reactor, or the refusal's
abbrev pub owner_numbers : Result ReactorIndex Refusal → List ℕ
owner_numbers (Ok r) = 0 ∷ r.0 ∷ []
owner_numbers (Err r) = numbers r

-- none of the first n rows has f
abbrev pub NoHolder : (ℕ → Bool) → ℕ → Type 0
NoHolder f n = (i : ℕ) → i < n → f i ≡ false

-- row r is the first of n that has f, and so many rows were read to find it: itself and those before it
pub record FirstHolder (f : ℕ → Bool) (n r read : ℕ) : Type 0 where
  pub inside : r < n
  pub holds : f r ≡ true
  pub before : NoHolder f r
  pub no_further : read ≡ r + 1

-- of an accepted station and a mode that it has, the answer is one reactor, which is the one that the mode names
abbrev pub OwnerIsNamed : Type 0
OwnerIsNamed =
    (p batch house : List ℕ) (c j : ℕ) → Accepted p batch house c → j < (pack_image p batch house).rows 6
    → owner_answer p batch house j ≡ 0 ∷ owner_of (pack_image p batch house) j ∷ []
