-- Runs of checks: they pass where each list does, and a refusal is that of the first list that refuses. Assumes nothing.
use Prim.Native.Nat.{ℕ, zero, suc, ◌+◌, ◌<◌, ◌≤◌}
use mathlib.Core.Bool.{Bool, true, false}
use mathlib.Core.Path.{◌≡◌, refl, ◌∙◌, sym}
use mathlib.Core.List.{List, [], ◌∷◌, ◌++◌}
use native.Mathlib.Decide.{dec_le}
use native.Mathlib.Omega.{arith}
use Rattle.std.specs.Prelude.{Ok, Err}
use Rattle.answers.specs.declared.Refusal.{Refusal}
use Rattle.answers.specs.Checks.{Check, need, first, run, Outcome, passed}
use Rattle.answers.proofs.Laws.{first_past, first_stops}

-- one check that holds, and one that fails
pub holds : {b : Bool} (r : Refusal) (cs : List Check) → b ≡ true → first (need b r ∷ cs) ≡ first cs
unfolding first
holds r cs e = rw e refl

pub fails : {b : Bool} (r : Refusal) (cs : List Check) → b ≡ false → first (need b r ∷ cs) ≡ Err r
unfolding first
fails r cs e = rw e refl

-- a run passes where each of its lists does
run_passes : (f : ℕ → List Check) (i n : ℕ) → ((k : ℕ) → i ≤ k → k < i + n → first (f k) ≡ passed) → first (run f i n) ≡ passed
unfolding run first
run_passes f i zero h = refl
run_passes f i (suc n) h =
    first_past (f i) (run f (suc i) n) (h i (omega arith) (omega arith)) ∙ run_passes f (suc i) n (λ k l u. h k (omega arith) (omega arith))

pub passes_run : (f : ℕ → List Check) (n : ℕ) → ((k : ℕ) → k < n → first (f k) ≡ passed) → first (run f 0 n) ≡ passed
passes_run f n h = run_passes f 0 n (λ k l u. h k (omega arith))

-- the lists before k pass, and the next one refuses
run_stops :
    (f : ℕ → List Check) (i n k : ℕ) {r : Refusal} → i ≤ k → k < i + n → ((j : ℕ) → i ≤ j → j < k → first (f j) ≡ passed)
    → first (f k) ≡ Err r → first (run f i n) ≡ Err r
unfolding run
run_stops f i zero k l u h e = absurd (omega arith)
run_stops f i (suc n) k l u h e =
    elim (dec_le k i) [
      | yes g ↦ (let x : i ≡ k = omega arith in first_stops (f i) (run f (suc i) n) (rw x e))
      | no g ↦ first_past (f i) (run f (suc i) n) (h i (omega arith) (omega arith)) ∙ run_stops f (suc i) n k (omega arith) (omega arith) (λ j m v. h j (omega arith) v) e
    ]

pub stops_run :
    (f : ℕ → List Check) (n k : ℕ) {r : Refusal} → k < n → ((j : ℕ) → j < k → first (f j) ≡ passed)
    → first (f k) ≡ Err r → first (run f 0 n) ≡ Err r
stops_run f n k l h e = run_stops f 0 n k (omega arith) (omega arith) (λ j m v. h j v) e

-- no checks, no refusal
pub none_refuses : {r : Refusal} → first [] ≡ Err r → ⊥
unfolding first
none_refuses e = let z : ◌≡◌ {A = ℕ} 0 1 = cc in omega arith

-- a refusal of two lists is of the first, or of the second after the first passed
pub data Split (xs ys : List Check) (r : Refusal) : Type 0 where
  inside : first xs ≡ Err r → Split xs ys r
  after : first xs ≡ passed → first ys ≡ Err r → Split xs ys r

pub split : (xs ys : List Check) {r : Refusal} → first (xs ++ ys) ≡ Err r → Split xs ys r
split xs ys {r} e = go (first xs) refl
  where
    go : (o : Outcome) → first xs ≡ o → Split xs ys r
    go (Ok u) h = after h (sym (first_past xs ys h) ∙ e)
    go (Err s) h = inside (h ∙ sym (first_stops xs ys h) ∙ e)

-- the same for one check
one_refusal : {r s : Refusal} → ◌≡◌ {A = Outcome} (Err r) (Err s) → r ≡ s
one_refusal e = cc

pub data Met (b : Bool) (s : Refusal) (cs : List Check) (r : Refusal) : Type 0 where
  here : b ≡ false → s ≡ r → Met b s cs r
  later : b ≡ true → first cs ≡ Err r → Met b s cs r

pub met : (b : Bool) (s : Refusal) (cs : List Check) {r : Refusal} → first (need b s ∷ cs) ≡ Err r → Met b s cs r
unfolding first
met true s cs e = later refl e
met false s cs e = here refl (one_refusal e)

pub met_only : (b : Bool) (s : Refusal) {r : Refusal} → first (need b s ∷ []) ≡ Err r → (b ≡ false) × (s ≡ r)
unfolding first
met_only true s e = absurd (let z : ◌≡◌ {A = ℕ} 0 1 = cc in omega arith)
met_only false s e = (refl, one_refusal e)

-- a refusal of n lists is of one, and those before it pass
pub record Fault (f : ℕ → List Check) (i n : ℕ) (r : Refusal) : Type 0 where
  pub place : ℕ
  pub from : i ≤ place
  pub within : place < i + n
  pub before : (j : ℕ) → i ≤ j → j < place → first (f j) ≡ passed
  pub is : first (f place) ≡ Err r

run_fault : (f : ℕ → List Check) (i n : ℕ) {r : Refusal} → first (run f i n) ≡ Err r → Fault f i n r
unfolding run
run_fault f i zero e = absurd (none_refuses e)
run_fault f i (suc n) {r} e = go (split (f i) (run f (suc i) n) e) (λ h. run_fault f (suc i) n h)
  where
    go : Split (f i) (run f (suc i) n) r → (first (run f (suc i) n) ≡ Err r → Fault f (suc i) n r) → Fault f i (suc n) r
    go (inside h) k = record { place = i; from = omega arith; within = omega arith; before = λ j l u. absurd (omega arith); is = h }
    go (after h g) k =
        let t = k g in
        let a = t.from in
        let b = t.within in
        record {
          place = t.place;
          from = omega arith;
          within = omega arith;
          before = λ j l u. elim (dec_le j i) [ yes y ↦ (let x : j ≡ i = omega arith in rw x h) | no y ↦ t.before j (omega arith) u ];
          is = t.is;
        }

pub fault : (f : ℕ → List Check) (n : ℕ) {r : Refusal} → first (run f 0 n) ≡ Err r → Fault f 0 n r
fault f n e = run_fault f 0 n e

-- runs of lists that are the same up to n
run_same : (f g : ℕ → List Check) (i n : ℕ) → ((k : ℕ) → i ≤ k → k < i + n → g k ≡ f k) → run g i n ≡ run f i n
unfolding run
run_same f g i zero h = refl
run_same f g i (suc n) h = rw (h i (omega arith) (omega arith), run_same f g (suc i) n (λ k l u. h k (omega arith) (omega arith))) refl

pub same_run : (f g : ℕ → List Check) (n : ℕ) → ((k : ℕ) → k < n → g k ≡ f k) → run g 0 n ≡ run f 0 n
same_run f g n h = run_same f g 0 n (λ k l u. h k (omega arith))
