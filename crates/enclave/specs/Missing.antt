-- A missing reference tells how many rows its table has. Assumes nothing.
use Rattle.std.specs.Prelude.{ℕ, ◌≡◌, List, length, get_or, Err}
use Rattle.answers.specs.declared.field.RowField.{RowField}
use Rattle.answers.specs.declared.Refusal.TheVariants.{ReferenceOutOfBounds}
use Rattle.answers.specs.Checks.{first}
use Rattle.checks.specs.Image.{Image}
use Rattle.enclave.specs.Passes.{enclave_checks}
use Rattle.enclave.specs.Answer.{pack_image, enclave_answer}

-- where an image's checks answer that table g has no row v, the last number of that refusal is how many rows table g has
abbrev pub MissingTellsRows : Type 0
MissingTellsRows =
    (m : Image) (at : RowField) (g v k : ℕ) → first (enclave_checks m) ≡ Err (ReferenceOutOfBounds at g v k) → k ≡ m.rows g

-- an answer that begins with 12 is seven numbers, the last of which is how many rows the table has that the fifth names
abbrev pub TellsRows : (ℕ → ℕ) → List ℕ → Type 0
TellsRows rows answer = get_or answer 0 0 ≡ 12 → (length answer ≡ 7) × (get_or answer 6 0 ≡ rows (get_or answer 4 0))

-- the answer of any pack is such, by the tables of the pack's image
abbrev pub AnswerTellsRows : Type 0
AnswerTellsRows = (p batch house : List ℕ) → TellsRows (pack_image p batch house).rows (enclave_answer p batch house)
