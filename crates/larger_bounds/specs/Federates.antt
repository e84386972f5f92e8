-- Demand 3 for federates, over packs: larger bounds. Assumes nothing.
use Rattle.std.specs.Prelude.{ℕ, ◌≡◌, List}
use Rattle.packing.specs.declared.PackKind.TheVariants.{Federate}
use Rattle.packing.specs.Packing.{Packed}
use Rattle.federate.specs.Answer.{federate_answer}
use Rattle.larger_bounds.specs.Packs.{DifferInStorage, NoBoundSmaller, SlotAnswer}

-- any answer other than a slot refusal is the answer with larger bounds: the same enclaves and links, or the same refusal
abbrev pub FederateAnswerStays : Type 0
FederateAnswerStays =
    (p q batch house : List ℕ) → Packed Federate p batch house → Packed Federate q batch house
    → DifferInStorage p q → NoBoundSmaller p q
    → (SlotAnswer (federate_answer p batch house) → ⊥)
    → federate_answer q batch house ≡ federate_answer p batch house
