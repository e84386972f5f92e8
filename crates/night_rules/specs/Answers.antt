-- What holds of the night's answer: the day's refusals and yeses, the refusals added, larger bounds, and what is not looked at. Assumes nothing.
use Rattle.std.specs.Prelude.{ℕ, ◌≡◌, ◌↔◌, List, [], ◌∷◌, get_or}
use Rattle.answers.specs.declared.Refusal.{Refusal}
use Rattle.answers.specs.Numbers.{numbers}
use Rattle.packing.specs.declared.PackKind.TheVariants.{Federate}
use Rattle.packing.specs.Packing.{Packed}
use Rattle.federate.specs.Answer.{federate_answer}
use Rattle.larger_bounds.specs.Packs.{DifferInStorage, NoBoundSmaller, SlotAnswer}
use Rattle.unlooked.specs.Packs.{DifferUnlooked}
use Rattle.night.specs.Night.{night_answer}
use Rattle.night_rules.specs.Rules.{NightRules}
use Rattle.night_rules.specs.Offenders.{FirstOffender}

-- an ordinary refusal stays the answer: the day's first number is no 0
abbrev pub RefusalStays : Type 0
RefusalStays =
    (p batch house : List ℕ) → (get_or (federate_answer p batch house) 0 0 ≡ 0 → ⊥)
    → night_answer p batch house ≡ federate_answer p batch house

-- a yes stays with its numbers exactly when the night's rules hold
abbrev pub YesStaysExactly : Type 0
YesStaysExactly =
    (p batch house : List ℕ) (s c : ℕ) → federate_answer p batch house ≡ 0 ∷ s ∷ c ∷ []
    → (night_answer p batch house ≡ 0 ∷ s ∷ c ∷ []) ↔ NightRules p batch house

-- where they do not, there is a first offender, and the answer to a yes of the day names it
abbrev pub RefusalNamesFirst : Type 0
RefusalNamesFirst =
    (p batch house : List ℕ) (s c : ℕ) → federate_answer p batch house ≡ 0 ∷ s ∷ c ∷ []
    → ((NightRules p batch house → ⊥) → (r : Refusal) × FirstOffender p batch house r)
    × ((r : Refusal) → FirstOffender p batch house r → night_answer p batch house ≡ numbers r)

-- demand 3: any answer other than a slot refusal is the answer with larger bounds
abbrev pub NightAnswerStays : Type 0
NightAnswerStays =
    (p q batch house : List ℕ) → Packed Federate p batch house → Packed Federate q batch house
    → DifferInStorage p q → NoBoundSmaller p q
    → (SlotAnswer (night_answer p batch house) → ⊥)
    → night_answer q batch house ≡ night_answer p batch house

-- Wish 14: lines that differ only in what is not looked at have one answer at night; routes are looked at whole
abbrev pub NightAnswerSame : Type 0
NightAnswerSame =
    (p q batch house : List ℕ) → Packed Federate p batch house → Packed Federate q batch house
    → DifferUnlooked Federate p q
    → night_answer q batch house ≡ night_answer p batch house
