-- An enclave without deadlines is checked, and answered, as one whose pack has no table for them. Assumes nothing.
use Rattle.std.specs.Prelude.{ℕ, ◌-◌, ◌≡◌, List, [], ◌∷◌, length, take}
use Rattle.answers.specs.Checks.{first}
use Rattle.schema.specs.Bytes.{byte_of}
use Rattle.packing.specs.declared.PackKind.TheVariants.{Enclave}
use Rattle.packing.specs.Packing.{packing_checks}
use Rattle.scope_checks.specs.Links.{links}
use Rattle.enclave.specs.Passes.{Pass, passes, checks_of, enclave_checks}
use Rattle.enclave.specs.Answer.{unless, pack_image, enclave_answer}

-- no record of the pack is a deadline
abbrev pub NoDeadlines : List ℕ → Type 0
NoDeadlines p = (n : ℕ) → byte_of p n 0 ≡ 25 → ⊥

-- the passes of `validate_enclave_const`: all but the last
abbrev pub ported_passes : List Pass
ported_passes = take (length passes - 1) passes

-- the checks of an enclave without deadlines are those of these passes alone
abbrev pub KeepsChecks : Type 0
KeepsChecks =
    (p batch house : List ℕ) → NoDeadlines p
    → enclave_checks (pack_image p batch house) ≡ checks_of (pack_image p batch house) ported_passes

-- and so is its answer
abbrev pub ported_answer : List ℕ → List ℕ → List ℕ → List ℕ
ported_answer p batch house =
    let m = pack_image p batch house in
    unless (first (packing_checks Enclave p batch house)) (unless (first (checks_of m ported_passes)) (0 ∷ links m ∷ []))

abbrev pub KeepsAnswer : Type 0
KeepsAnswer = (p batch house : List ℕ) → NoDeadlines p → enclave_answer p batch house ≡ ported_answer p batch house
