-- The answer of the enclave check: document 01's number and values, 0 and the link count for acceptance. Assumes nothing.
use Rattle.std.specs.Prelude.{ℕ, List, [], ◌∷◌, Result, Ok, Err}
use Rattle.answers.specs.declared.Refusal.{Refusal}
use Rattle.answers.specs.Numbers.{numbers}
use Rattle.answers.specs.Checks.{first, Outcome, answer_of}
use Rattle.packing.specs.declared.PackKind.TheVariants.{Enclave}
use Rattle.packing.specs.Packing.{packing_checks}
use Rattle.packing.specs.Starts.{table_starts}
use Rattle.checks.specs.Image.{Image, image}
use Rattle.scope_checks.specs.Links.{links}
use Rattle.enclave.specs.Passes.{enclave_checks}

-- the numbers of an answer
abbrev pub answer_numbers : Result ℕ Refusal → List ℕ
answer_numbers (Ok n) = 0 ∷ n ∷ []
answer_numbers (Err r) = numbers r

-- an image's checks and its link count as an answer
unfoldable pub image_result : Image → Result ℕ Refusal
image_result m = answer_of (first (enclave_checks m)) (links m)

-- a refusal, or what follows a pass
abbrev pub unless : Outcome → List ℕ → List ℕ
unless (Ok u) ns = ns
unless (Err r) ns = numbers r

-- the answer for an image
unfoldable pub image_answer : Image → List ℕ
image_answer m = unless (first (enclave_checks m)) (0 ∷ links m ∷ [])

-- the image of an enclave pack: its record is 0, its rows start at record 1
abbrev pub pack_image : List ℕ → List ℕ → List ℕ → Image
pack_image p batch house = image p batch house (table_starts p 1) 0

-- the answer for a pack: packing first
unfoldable pub enclave_answer : List ℕ → List ℕ → List ℕ → List ℕ
enclave_answer p batch house = unless (first (packing_checks Enclave p batch house)) (image_answer (pack_image p batch house))

-- what a pass leaves, or what was there
abbrev pub left_by : Outcome → List ℕ → List ℕ → List ℕ
left_by (Ok u) found old = found
left_by (Err r) found old = old

-- what lent starts hold after the check: where the pack's tables begin, if it passes packing, and else what they held
unfoldable pub starts_left : List ℕ → List ℕ → List ℕ → List ℕ → List ℕ
starts_left p batch house old = left_by (first (packing_checks Enclave p batch house)) (table_starts p 1) old
