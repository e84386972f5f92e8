-- Where checks pass, each of them does: of a list, of two lists, of a run. Assumes nothing.
use Prim.Native.Nat.{ℕ, zero, suc, ◌+◌, ◌<◌, ◌≤◌}
use mathlib.Core.Bool.{Bool, true, false, true≢false}
use mathlib.Core.Path.{◌≡◌, refl}
use mathlib.Core.List.{List, [], ◌∷◌, ◌++◌}
use native.Mathlib.Decide.{dec_le}
use native.Mathlib.Omega.{arith}
use lib.Dec.{ltb, leb, eqb}
use borrow.Author.Tests.{ltb-true, leb-true, eqb-true}
use Rattle.answers.specs.declared.Refusal.{Refusal}
use Rattle.answers.specs.Checks.{Check, need, first, run, passed}

-- the checks cs pass
pub record Passes (cs : List Check) : Type 0 where
  pub is : first cs ≡ passed

-- the first check of a list, and the rest
passed_first : (b : Bool) (r : Refusal) (cs : List Check) → first (need b r ∷ cs) ≡ passed → (b ≡ true) × (first cs ≡ passed)
unfolding first
passed_first true r cs e = (refl, e)
passed_first false r cs e = let z : ◌≡◌ {A = Bool} true false = cc in absurd (true≢false z)

module _ {b : Bool} {r : Refusal} {cs : List Check} (h : Passes (need b r ∷ cs)) where
  pub test : b ≡ true
  test = (passed_first b r cs h.is).0

  pub rest : Passes cs
  rest = record { is = (passed_first b r cs h.is).1 }

-- what the first check says, by its test
pub below : {a b : ℕ} {r : Refusal} {cs : List Check} → Passes (need (ltb a b) r ∷ cs) → a < b
below {a} {b} h = ltb-true a b (test h)

pub at_most : {a b : ℕ} {r : Refusal} {cs : List Check} → Passes (need (leb a b) r ∷ cs) → a ≤ b
at_most {a} {b} h = leb-true a b (test h)

pub equal : {a b : ℕ} {r : Refusal} {cs : List Check} → Passes (need (eqb a b) r ∷ cs) → a ≡ b
equal {a} {b} h = eqb-true a b (test h)

-- two lists one after the other
passed_append : (xs ys : List Check) → first (xs ++ ys) ≡ passed → (first xs ≡ passed) × (first ys ≡ passed)
unfolding first
passed_append [] ys e = (refl, e)
passed_append (need true r ∷ xs) ys e = passed_append xs ys e
passed_append (need false r ∷ xs) ys e = let z : ◌≡◌ {A = Bool} true false = cc in absurd (true≢false z)

pub parts : (xs ys : List Check) → Passes (xs ++ ys) → Passes xs × Passes ys
parts xs ys h = let e = passed_append xs ys h.is in (record { is = e.0 }, record { is = e.1 })

-- each item of a run
passed_run : (f : ℕ → List Check) (i n : ℕ) → Passes (run f i n) → (k : ℕ) → i ≤ k → k < i + n → Passes (f k)
unfolding run
passed_run f i zero h k l u = absurd (omega arith)
passed_run f i (suc n) h k l u =
    let e = parts (f i) (run f (suc i) n) h in
    elim (dec_le k i) [ yes g ↦ (let x : k ≡ i = omega arith in rw x e.0) | no g ↦ passed_run f (suc i) n e.1 k (omega arith) (omega arith) ]

pub item : (f : ℕ → List Check) (n : ℕ) → Passes (run f 0 n) → (k : ℕ) → k < n → Passes (f k)
item f n h k l = passed_run f 0 n h k (omega arith) (omega arith)
