-- Demand 3 for enclaves, over packs: larger bounds, and the slot checks left out. Assumes nothing.
use Rattle.std.specs.Prelude.{ℕ, ◌/◌, ◌<◌, ◌≤◌, ◌≡◌, ◌↔◌, List, [], ◌∷◌, length, get_or}
use Rattle.answers.specs.Checks.{first}
use Rattle.answers.specs.Slots.{without_slots}
use Rattle.schema.specs.Bytes.{byte_of}
use Rattle.schema.specs.Rows.{enclave_at, reactor_at, action_at}
use Rattle.packing.specs.declared.PackKind.TheVariants.{Enclave}
use Rattle.packing.specs.Packing.{packing_checks, Packed}
use Rattle.scope_checks.specs.Links.{links}
use Rattle.enclave.specs.Passes.{enclave_checks}
use Rattle.enclave.specs.Answer.{unless, pack_image, enclave_answer}

-- the state and the action bound of the enclave of record n
abbrev pub state_bound : List ℕ → ℕ → ℕ
state_bound p n = (enclave_at p n).storage_bounds.state_slots

abbrev pub action_bound : List ℕ → ℕ → ℕ
action_bound p n = (enclave_at p n).storage_bounds.action_slots

-- byte j of record n is of an enclave's six storage numbers: three W and three D after its identity
abbrev pub StorageByte : List ℕ → ℕ → ℕ → Type 0
StorageByte p n j = (byte_of p n 0 ≡ 1) × (12 ≤ j) × (j < 48)

-- two packs that differ only in the six storage numbers of their enclaves
abbrev pub DifferInStorage : List ℕ → List ℕ → Type 0
DifferInStorage p q =
    (length q ≡ length p)
    × ((n j : ℕ) → j < 64 → (StorageByte p n j → ⊥) → byte_of q n j ≡ byte_of p n j)

-- no state or action bound is smaller in q; enclaves are compared at the same place
abbrev pub NoBoundSmaller : List ℕ → List ℕ → Type 0
NoBoundSmaller p q =
    (n : ℕ) → byte_of p n 0 ≡ 1
    → (state_bound p n ≤ state_bound q n) × (action_bound p n ≤ action_bound q n)

-- an answer that is a slot refusal: its number is 23
abbrev pub SlotAnswer : List ℕ → Type 0
SlotAnswer answer = get_or answer 0 0 ≡ 23

-- any answer other than a slot refusal is the answer with larger bounds
abbrev pub EnclaveAnswerStays : Type 0
EnclaveAnswerStays =
    (p q batch house : List ℕ) → Packed Enclave p batch house → Packed Enclave q batch house
    → DifferInStorage p q → NoBoundSmaller p q
    → (SlotAnswer (enclave_answer p batch house) → ⊥)
    → enclave_answer q batch house ≡ enclave_answer p batch house

-- the answer with the slot checks left out: all else in the same order, with the same refusals and links
unfoldable pub answer_without_slots : List ℕ → List ℕ → List ℕ → List ℕ
answer_without_slots p batch house =
    let m = pack_image p batch house in
    unless (first (packing_checks Enclave p batch house)) (unless (first (without_slots (enclave_checks m))) (0 ∷ links m ∷ []))

-- the state slot of each row of table 2 is below the state bound, the slot of each row of table 3 below the action bound
abbrev pub SlotsUsedBelow : List ℕ → Type 0
SlotsUsedBelow p =
    (n : ℕ) → n < length p / 64
    → (byte_of p n 0 ≡ 2 → (reactor_at p n).state_slot < state_bound p 0)
    × (byte_of p n 0 ≡ 3 → (action_at p n).storage_slot < action_bound p 0)

-- accepted with a link count exactly when accepted with that count without the slot checks, and every slot used is below its bound
abbrev pub EnclaveAcceptedExactly : Type 0
EnclaveAcceptedExactly =
    (p batch house : List ℕ) → Packed Enclave p batch house → (count : ℕ)
    → (enclave_answer p batch house ≡ 0 ∷ count ∷ []) ↔ ((answer_without_slots p batch house ≡ 0 ∷ count ∷ []) × SlotsUsedBelow p)
