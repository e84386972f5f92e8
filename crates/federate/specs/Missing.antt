-- A missing reference of a federate is one of its enclaves', and tells how many rows the table has there. Assumes nothing.
use Rattle.std.specs.Prelude.{ℕ, ◌<◌, true, ◌≡◌, List, get_or}
use Rattle.schema.specs.Records.{records_of, is_of}
use Rattle.enclave.specs.Answer.{image_answer}
use Rattle.enclave.specs.Missing.{TellsRows}
use Rattle.federate.specs.Enclaves.{image_at}
use Rattle.federate.specs.Answer.{federate_answer}

-- an answer that begins with 12 is that of the enclave of some record n, and tells the rows of that enclave's table
abbrev pub FederateTellsRows : Type 0
FederateTellsRows =
    (p batch house : List ℕ) → get_or (federate_answer p batch house) 0 0 ≡ 12
    → (n : ℕ) × (n < records_of p) × (is_of p 1 n ≡ true)
    × (federate_answer p batch house ≡ image_answer (image_at p batch house n))
    × TellsRows (image_at p batch house n).rows (federate_answer p batch house)
