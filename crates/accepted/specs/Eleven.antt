-- Refusal 11, a table too large, is no answer. Assumes nothing.
use Rattle.std.specs.Prelude.{ℕ, ◌≡◌, List, get_or}
use Rattle.enclave.specs.Answer.{enclave_answer}
use Rattle.federate.specs.Answer.{federate_answer}

-- no answer to a station pack begins with 11, and none to a line pack
abbrev pub NoAnswerIsEleven : Type 0
NoAnswerIsEleven =
    (p batch house : List ℕ)
    → (get_or (enclave_answer p batch house) 0 0 ≡ 11 → ⊥)
    × (get_or (federate_answer p batch house) 0 0 ≡ 11 → ⊥)
