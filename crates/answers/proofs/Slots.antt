-- Leaving out the slot checks: a list passes exactly where the rest passes and every slot check holds. Assumes nothing.
use mathlib.Core.Bool.{Bool, true, false, ◌&&◌, and_assoc, true≢false}
use mathlib.Core.Path.{◌≡◌, refl, ◌∙◌, ap, sym}
use mathlib.Core.List.{List, [], ◌∷◌, ◌++◌}
use Rattle.identity.proofs.Tests.{cases}
use Rattle.answers.specs.Checks.{Check, need, first, passed}
use Rattle.answers.specs.Slots.{is_slot, without_slots, slots_hold}

-- what passes, passes without the slot checks, and its slot checks hold
pub passes-without : (cs : List Check) → first cs ≡ passed → (first (without_slots cs) ≡ passed) × (slots_hold cs ≡ true)
unfolding first without_slots slots_hold
passes-without [] e = (refl, refl)
passes-without (need true r ∷ cs) e =
    let h = passes-without cs e in
    cases (is_slot r) (λ t. (rw t h.0, rw t h.1)) (λ f. (rw f h.0, rw f h.1))
passes-without (need false r ∷ cs) e = let z : ◌≡◌ {A = Bool} true false = cc in absurd (true≢false z)

-- what passes without the slot checks passes where they hold
pub passes-with : (cs : List Check) → first (without_slots cs) ≡ passed → slots_hold cs ≡ true → first cs ≡ passed
unfolding first without_slots slots_hold
passes-with [] e h = refl
passes-with (need true r ∷ cs) e h =
    cases (is_slot r)
    (λ t. passes-with cs (rw t at e) (rw t at h))
    (λ f. passes-with cs (rw f at e) (rw f at h))
passes-with (need false r ∷ cs) e h =
    cases (is_slot r)
    (λ t. let x = rw t at h in absurd (true≢false (sym x)))
    (λ f. let x = rw f at e in let z : ◌≡◌ {A = Bool} true false = cc in absurd (true≢false z))

-- of two lists, one after the other
pub slots-append : (xs ys : List Check) → slots_hold (xs ++ ys) ≡ (slots_hold xs && slots_hold ys)
unfolding slots_hold
slots-append [] ys = refl
slots-append (need b r ∷ xs) ys =
    cases (is_slot r)
    (λ t. rw t (ap (b &&◌) (slots-append xs ys) ∙ sym (and_assoc b (slots_hold xs) (slots_hold ys))))
    (λ f. rw f (slots-append xs ys))
