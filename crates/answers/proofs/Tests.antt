-- Tests of checks: whether they pass, quickly or exactly, one check or a run of them. Assumes nothing.
use Rattle.std.proofs.Common.{ℕ, ◌+◌, ◌-◌, ◌<◌, ◌≤◌, ◌≡◌, ◌++◌, ◌∙◌, ◌∷◌, [], Bool, true, false, not, List, refl, sym, arith}
use mathlib.Core.Bool.{true≢false}
use Rattle.answers.specs.declared.Refusal.{Refusal}
use Rattle.std.specs.Prelude.{Ok, Err, is_ok}
use Rattle.answers.specs.Checks.{Check, need, first, run, Outcome, passed, Decides, PassesIf}
use Rattle.answers.proofs.Laws.{first_past, first_stops}
use Rattle.answers.proofs.Loops.{Remaining, run_next, run_over}

-- what passed, and what did not, by the test of its answer
by-passed : (o : Outcome) → true ≡ is_ok o → o ≡ passed
by-passed (Ok u) e = refl
by-passed (Err r) e = absurd (true≢false e)

by-refused : (o : Outcome) (xs ys : List Check) → first xs ≡ o → false ≡ is_ok o → false ≡ is_ok (first (xs ++ ys))
by-refused (Ok u) xs ys d e = absurd (true≢false (sym e))
by-refused (Err r) xs ys d e = rw (first_stops xs ys d) refl

-- the test of one check, and of a check before others
pub test-last : (b : Bool) (r : Refusal) → b ≡ is_ok (first (need b r ∷ []))
unfolding first
test-last true r = refl
test-last false r = refl

pub test-pass : {b c : Bool} (r : Refusal) (cs : List Check) → b ≡ true → c ≡ is_ok (first cs) → c ≡ is_ok (first (need b r ∷ cs))
unfolding first
test-pass r cs e d = rw e d

pub test-fail : {b : Bool} (r : Refusal) (cs : List Check) → b ≡ false → false ≡ is_ok (first (need b r ∷ cs))
unfolding first
test-fail r cs e = rw e refl

-- a test that does not hold says that checks do not pass, whatever follows them
pub fails : {b : Bool} (xs ys : List Check) → b ≡ is_ok (first xs) → not b ≡ true → false ≡ is_ok (first (xs ++ ys))
fails {b = true} xs ys e n = absurd (true≢false (sym n))
fails {b = false} xs ys e n = by-refused (first xs) xs ys refl e

-- where it does not hold, what follows them does not count
pub stopped : {cs : List Check} {o : Outcome} {b : Bool} (ds : List Check) → Decides cs o → b ≡ is_ok (first cs) → not b ≡ true → Decides (cs ++ ds) o
stopped {o = Ok u} ds d e n = absurd (true≢false (sym n ∙ rw (e, ← d.is) refl))
stopped {cs} {o = Err r} ds d e n = record { is = sym (first_stops cs ds (sym d.is)) }

not-true : {b : Bool} → not b ≡ false → b ≡ true
not-true {b = true} e = refl
not-true {b = false} e = absurd (true≢false e)

-- what is left of a run of n lists of checks at item i
pub record Left (f : ℕ → List Check) (i n : ℕ) : Type 0 where
  pub within : i ≤ n
  pub same : Remaining f i n

-- a loop over a run of checks: one step, its refusal and its end
step : (f : ℕ → List Check) (i n : ℕ) → Remaining f i n → i < n → first (f i) ≡ passed → Remaining f (i + 1) n
step f i n l h e = l ∙ rw (run_next f i n h) (first_past (f i) _ e)

stop : (f : ℕ → List Check) (i n : ℕ) {r : Refusal} → Remaining f i n → i < n → first (f i) ≡ Err r → first (run f 0 n) ≡ Err r
stop f i n l h e = l ∙ rw (run_next f i n h) (first_stops (f i) _ e)

-- the end of a loop whose bound k is the run's length n by an equation
pub loop-stop : (f : ℕ → List Check) {i k n : ℕ} {o : Outcome} {r : Refusal} → Remaining f i k → k ≡ n → i < k → Decides (f i) o → o ≡ Err r → Decides (run f 0 n) o
loop-stop f {i} {k} l e h d t = record { is = t ∙ sym (rw (← e) (stop f i k l h (sym d.is ∙ t))) }

pub loop-none : (f : ℕ → List Check) {i k n : ℕ} → Remaining f i k → k ≡ n → k ≤ i → Decides (run f 0 n) passed
loop-none f {i} {k} l e h = record { is = sym (rw (← e) (l ∙ run_over f i k h)) }

-- a quick test of a whole run, item by item
pub quick-none : (f : ℕ → List Check) {i k n : ℕ} → Remaining f i k → k ≡ n → k ≤ i → PassesIf (run f 0 n) true
quick-none f l e h = record { passes = λ _. sym (loop-none f l e h).is }

-- an exact test of a run, item by item
pub test-step : (f : ℕ → List Check) {i n : ℕ} {b : Bool} → Left f i n → i < n → b ≡ is_ok (first (f i)) → not b ≡ false → Left f (i + 1) n
test-step f {i} {n} l h d e = record { within = omega arith; same = step f i n l.same h (by-passed (first (f i)) (rw (not-true e) at d)) }

pub test-stop : (f : ℕ → List Check) {i k n : ℕ} {b : Bool} → Remaining f i k → k ≡ n → i < k → b ≡ is_ok (first (f i)) → not b ≡ true → false ≡ is_ok (first (run f 0 n))
test-stop f {i} {k} l e h d t = rw (← e, l, run_next f i k h) (fails (f i) _ d t)

pub test-none : (f : ℕ → List Check) {i k n : ℕ} → Remaining f i k → k ≡ n → k ≤ i → true ≡ is_ok (first (run f 0 n))
test-none f l e h = rw (← (loop-none f l e h).is) refl

-- a loop that keeps a value from one item to the next: before item i it is `before i`
pub record Keeping {A : Type 0} (f : ℕ → List Check) (before : ℕ → A) (n i : ℕ) (kept : A) : Type 0 where
  pub left : Left f i n
  pub is : kept ≡ before i

pub keeping-start : {A : Type 0} {before : ℕ → A} {kept : A} (f : ℕ → List Check) (n : ℕ) → kept ≡ before 0 → Keeping f before n 0 kept
keeping-start f n e = record { left = record { within = omega arith; same = let k : n - 0 ≡ n = omega arith in rw k refl }; is = e }

pub keeping-step : {A : Type 0} (f : ℕ → List Check) {before : ℕ → A} {n i : ℕ} {kept next : A} {o : Outcome} → Keeping f before n i kept → i < n → Decides (f i) o → o ≡ passed → next ≡ before (i + 1) → Keeping f before n (i + 1) next
keeping-step f {n = n} {i = i} l h d e k = record { left = record { within = omega arith; same = step f i n l.left.same h (sym d.is ∙ e) }; is = k }

pub keeping-quick : {A : Type 0} (f : ℕ → List Check) {before : ℕ → A} {n i : ℕ} {kept next : A} {b : Bool} → Keeping f before n i kept → i < n → PassesIf (f i) b → not b ≡ false → next ≡ before (i + 1) → Keeping f before n (i + 1) next
keeping-quick f {n = n} {i = i} l h q e k = record { left = record { within = omega arith; same = step f i n l.left.same h (q.passes (not-true e)) }; is = k }
