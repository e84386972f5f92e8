-- Slot checks: the ones that give refusal 23 (document 01, "Slots"). Assumes nothing.
use Rattle.std.specs.Prelude.{ℕ, Bool, true, false, ◌&&◌, cond, ◌≡◌, List, [], ◌∷◌, eqb, Err}
use Rattle.answers.specs.declared.Refusal.{Refusal}
use Rattle.answers.specs.declared.Refusal.TheVariants.{StorageBoundExceeded}
use Rattle.answers.specs.Numbers.{numbers}
use Rattle.answers.specs.Checks.{Check, need, Outcome}

-- o is a slot refusal
abbrev pub SlotRefusal : Outcome → Type 0
SlotRefusal o = (t : ℕ) × (i : ℕ) × (s : ℕ) × (b : ℕ) × (o ≡ Err (StorageBoundExceeded t i s b))

abbrev head_is : ℕ → List ℕ → Bool
head_is n [] = false
head_is n (x ∷ xs) = eqb x n

-- the refusal's number is 23
unfoldable pub is_slot : Refusal → Bool
is_slot r = head_is 23 (numbers r)

-- the checks without the slot checks
unfoldable pub without_slots : List Check → List Check
without_slots [] = []
without_slots (need b r ∷ cs) = cond (is_slot r) (without_slots cs) (need b r ∷ without_slots cs)

-- every slot check's test holds
unfoldable pub slots_hold : List Check → Bool
slots_hold [] = true
slots_hold (need b r ∷ cs) = cond (is_slot r) (b && slots_hold cs) (slots_hold cs)
