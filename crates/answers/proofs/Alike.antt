-- Two lists of checks with one answer: the tests that decide are the same, and those after a test that fails are not looked at. Assumes nothing.
use Prim.Native.Nat.{ℕ, zero, suc, ◌+◌, ◌<◌, ◌≤◌}
use mathlib.Core.Bool.{Bool, true, false}
use mathlib.Core.Path.{◌≡◌, refl, ◌∙◌, sym}
use mathlib.Core.List.{List, [], ◌∷◌, ◌++◌}
use native.Mathlib.Omega.{arith}
use Rattle.std.specs.Prelude.{Ok, Err}
use Rattle.answers.specs.declared.Refusal.{Refusal}
use Rattle.answers.specs.Checks.{Check, need, first, run, Outcome}
use Rattle.answers.proofs.Laws.{first_past, first_stops}
use Rattle.answers.proofs.Passed.{Passes}

pub record Alike (xs ys : List Check) : Type 0 where
  pub is : first ys ≡ first xs

pub alike_same : (xs : List Check) → Alike xs xs
alike_same xs = record { is = refl }

-- one test, and what follows it where it holds
pub alike_need : {b : Bool} {r : Refusal} {xs ys : List Check} → (b ≡ true → Alike xs ys) → Alike (need b r ∷ xs) (need b r ∷ ys)
unfolding first
alike_need {b = true} h = record { is = (h refl).is }
alike_need {b = false} h = record { is = refl }

-- one list, and what follows it where it passes
pub alike_append : {xs ys xs' ys' : List Check} → Alike xs ys → (Passes xs → Alike xs' ys') → Alike (xs ++ xs') (ys ++ ys')
alike_append {xs} {ys} {xs'} {ys'} a h = go (first xs) refl
  where
    go : (o : Outcome) → first xs ≡ o → Alike (xs ++ xs') (ys ++ ys')
    go (Ok u) e = record { is = first_past ys ys' (a.is ∙ e) ∙ (h (record { is = e })).is ∙ sym (first_past xs xs' e) }
    go (Err r) e = record { is = first_stops ys ys' (a.is ∙ e) ∙ sym (first_stops xs xs' e) }

run_alike : (f g : ℕ → List Check) (i n : ℕ) → ((k : ℕ) → i ≤ k → k < i + n → Alike (f k) (g k)) → Alike (run f i n) (run g i n)
unfolding run
run_alike f g i zero h = alike_same []
run_alike f g i (suc n) h =
    alike_append (h i (omega arith) (omega arith)) (λ e. run_alike f g (suc i) n (λ k l u. h k (omega arith) (omega arith)))

pub alike_run : {f g : ℕ → List Check} {n : ℕ} → ((k : ℕ) → k < n → Alike (f k) (g k)) → Alike (run f 0 n) (run g 0 n)
alike_run {f} {g} {n} h = run_alike f g 0 n (λ k l u. h k (omega arith))
