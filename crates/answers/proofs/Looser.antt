-- Where only slot checks may become true, an answer that is no slot refusal stays. Assumes nothing.
use Prim.Native.Nat.{ℕ, zero, suc}
use mathlib.Core.Bool.{Bool, true, false}
use mathlib.Core.Path.{◌≡◌, refl}
use mathlib.Core.List.{List, [], ◌∷◌, ◌++◌}
use Rattle.answers.specs.declared.Refusal.TheVariants.{StorageBoundExceeded}
use Rattle.answers.specs.Checks.{Check, need, first, run}
use Rattle.answers.specs.Slots.{SlotRefusal}

-- the second list's checks are the first's, but for slot checks, which hold in the second where they hold in the first
pub data Looser : List Check → List Check → Type 0 where
  done : Looser [] []
  same : {c : Check} {xs ys : List Check} → Looser xs ys → Looser (c ∷ xs) (c ∷ ys)
  slot : {b b' : Bool} {t i s k k' : ℕ} {xs ys : List Check} → (b ≡ true → b' ≡ true) → Looser xs ys → Looser (need b (StorageBoundExceeded t i s k) ∷ xs) (need b' (StorageBoundExceeded t i s k') ∷ ys)

pub looser-same : (xs : List Check) → Looser xs xs
looser-same [] = done
looser-same (c ∷ xs) = same (looser-same xs)

pub looser-append : {xs ys xs' ys' : List Check} → Looser xs ys → Looser xs' ys' → Looser (xs ++ xs') (ys ++ ys')
looser-append done m = m
looser-append (same l) m = same (looser-append l m)
looser-append (slot h l) m = slot h (looser-append l m)

pub looser-run : (f g : ℕ → List Check) → ((i : ℕ) → Looser (f i) (g i)) → (i n : ℕ) → Looser (run f i n) (run g i n)
unfolding run
looser-run f g h i zero = done
looser-run f g h i (suc n) = looser-append (h i) (looser-run f g h (suc i) n)

-- the answer of the first list, unless it is a slot refusal, is the answer of the second
pub looser-stays : {xs ys : List Check} → Looser xs ys → (SlotRefusal (first xs) → ⊥) → first ys ≡ first xs
unfolding first
looser-stays done n = refl
looser-stays (same {c = need true r} l) n = looser-stays l n
looser-stays (same {c = need false r} l) n = refl
looser-stays (slot {b = true} {b' = b'} h l) n = rw (h refl) (looser-stays l n)
looser-stays (slot {b = false} h l) n = absurd (n (_, _, _, _, refl))
