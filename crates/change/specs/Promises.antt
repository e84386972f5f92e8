-- What document 02 promises of a record that is changed or tried first (Wish 7). Assumes nothing.
use Rattle.std.specs.Prelude.{ℕ, ◌+◌, ◌*◌, ◌/◌, ◌<◌, ◌≤◌, ◌≡◌, ◌⊎◌, ◌↔◌, List, [], ◌∷◌, length, get_or, Result}
use Rattle.answers.specs.declared.Refusal.{Refusal}
use Rattle.answers.specs.Numbers.{numbers}
use Rattle.schema.specs.Bytes.{byte_of}
use Rattle.federate.specs.declared.FederateAccepted.{FederateAccepted}
use Rattle.federate.specs.Answer.{federate_numbers}
use Rattle.accepted.specs.Worth.{LineAccepted}
use Rattle.change.specs.Change.{changed, change_answer, pack_after}

-- none of the checks refuses, and the new line has s stations and c links
pub record MayChange (p batch house : List ℕ) (n : ℕ) (row : List ℕ) (s c : ℕ) : Type 0 where
  pub sized : length row ≡ 64
  pub present : (t : ℕ) × (d : ℕ) × LineAccepted p batch house t d
  pub there : n < length p / 64
  pub same_table : get_or row 0 0 ≡ byte_of p n 0
  pub new_line : LineAccepted (changed p n row) batch house s c

-- "the new line's yes is the answer, exactly when no check below refuses, the whole new line's included"
abbrev pub AcceptedExactly : Type 0
AcceptedExactly =
    (p batch house : List ℕ) (n : ℕ) (row : List ℕ) (s c : ℕ)
    → (change_answer p batch house n row ≡ 0 ∷ s ∷ c ∷ []) ↔ MayChange p batch house n row s c

-- and then "it is written": the pack after is the new line, and is accepted as the answer says
abbrev pub Written : Type 0
Written =
    (p batch house : List ℕ) (n : ℕ) (row : List ℕ) (s c : ℕ) → change_answer p batch house n row ≡ 0 ∷ s ∷ c ∷ []
    → (pack_after p batch house n row ≡ changed p n row) × LineAccepted (pack_after p batch house n row) batch house s c

-- "otherwise the pack is untouched"
abbrev pub Untouched : Type 0
Untouched =
    (p batch house : List ℕ) (n : ℕ) (row : List ℕ) (r : Refusal)
    → change_answer p batch house n row ≡ numbers r → pack_after p batch house n row ≡ p

-- "only those 64 bytes may differ": the pack keeps its length and each byte before the record and after it
abbrev pub OnlyTheRecord : Type 0
OnlyTheRecord =
    (p batch house : List ℕ) (n : ℕ) (row : List ℕ)
    → (length (pack_after p batch house n row) ≡ length p)
    × ((i : ℕ) → (i < n * 64) ⊎ (n * 64 + 64 ≤ i) → get_or (pack_after p batch house n row) i 0 ≡ get_or p i 0)

-- and where it is written, the record's bytes are the row's
abbrev pub RecordIsRow : Type 0
RecordIsRow =
    (p batch house : List ℕ) (n : ℕ) (row : List ℕ) (s c : ℕ) → change_answer p batch house n row ≡ 0 ∷ s ∷ c ∷ []
    → (j : ℕ) → j < 64 → byte_of (pack_after p batch house n row) n j ≡ get_or row j 0

-- a preview's "answer is the one the change would give on a copy": whatever the two answer, as their contracts say it
abbrev pub PreviewIsChange : Type 0
PreviewIsChange =
    (p copy batch house : List ℕ) (n : ℕ) (row : List ℕ) (previewed done : Result FederateAccepted Refusal) → copy ≡ p
    → federate_numbers previewed ≡ change_answer p batch house n row
    → federate_numbers done ≡ change_answer copy batch house n row
    → federate_numbers previewed ≡ federate_numbers done
