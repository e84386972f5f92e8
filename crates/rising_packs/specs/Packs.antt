-- Two packs that have one answer of the second check and of what a reaction reaches: larger bounds, and what is not looked at. Assumes nothing.
use Rattle.std.specs.Prelude.{ℕ, ◌≡◌, List}
use Rattle.packing.specs.declared.PackKind.TheVariants.{Enclave}
use Rattle.packing.specs.Packing.{Packed}
use Rattle.larger_bounds.specs.Packs.{DifferInStorage, NoBoundSmaller, SlotAnswer}
use Rattle.unlooked.specs.Packs.{DifferUnlooked}
use Rattle.rising.specs.declared.marks.Marks.{Marks}
use Rattle.rising.specs.Rising.{rising_answer}
use Rattle.rising.specs.Answer.{reach_answer, scratch_after}

-- any answer of the second check other than a slot refusal is the answer with larger bounds: the same links, or the same refusal
abbrev pub RisingAnswerStays : Type 0
RisingAnswerStays =
    (p q batch house : List ℕ) → Packed Enclave p batch house → Packed Enclave q batch house
    → DifferInStorage p q → NoBoundSmaller p q
    → (SlotAnswer (rising_answer p batch house) → ⊥)
    → rising_answer q batch house ≡ rising_answer p batch house

-- any answer to the question other than a slot refusal is the answer with larger bounds, and the lent bytes are left alike
abbrev pub ReachAnswerStays : Type 0
ReachAnswerStays =
    (p q batch house : List ℕ) → Packed Enclave p batch house → Packed Enclave q batch house
    → DifferInStorage p q → NoBoundSmaller p q
    → (k : Marks) (r : ℕ) (scratch : List ℕ) → (SlotAnswer (reach_answer k p batch house r scratch) → ⊥)
    → (reach_answer k q batch house r scratch ≡ reach_answer k p batch house r scratch)
    × (scratch_after k q batch house r scratch ≡ scratch_after k p batch house r scratch)

-- packs that differ only in what the check of a station does not look at have one answer of the second check, links and refusals included
abbrev pub RisingAnswerSame : Type 0
RisingAnswerSame =
    (p q batch house : List ℕ) → Packed Enclave p batch house → Packed Enclave q batch house
    → DifferUnlooked Enclave p q → rising_answer q batch house ≡ rising_answer p batch house

-- and one answer to the question; the lent bytes are left alike
abbrev pub ReachAnswerSame : Type 0
ReachAnswerSame =
    (p q batch house : List ℕ) → Packed Enclave p batch house → Packed Enclave q batch house
    → DifferUnlooked Enclave p q → (k : Marks) (r : ℕ) (scratch : List ℕ)
    → (reach_answer k q batch house r scratch ≡ reach_answer k p batch house r scratch)
    × (scratch_after k q batch house r scratch ≡ scratch_after k p batch house r scratch)
