-- A loop over a run of checks: what is left at i decides the whole run. Assumes nothing.
use Rattle.std.proofs.Common.{ℕ, suc, ◌+◌, ◌-◌, ◌<◌, ◌≤◌, ◌≡◌, ◌++◌, List, refl, add-one, arith}
use Rattle.answers.specs.Checks.{Check, first, run, passed}
use Rattle.answers.proofs.Laws.{first_past, first_stays}

-- the items before i passed, so that those from i on decide
abbrev pub Remaining : (ℕ → List Check) → ℕ → ℕ → Type 0
Remaining f i n = first (run f 0 n) ≡ first (run f i (n - i))

-- a run that is not over starts with the checks at i
pub run_next : (f : ℕ → List Check) (i n : ℕ) → i < n → run f i (n - i) ≡ f i ++ run f (i + 1) (n - (i + 1))
unfolding run
run_next f i n h = let e : n - i ≡ suc (n - (i + 1)) = omega arith in rw (e, add-one) refl

pub run_over : (f : ℕ → List Check) (i n : ℕ) → n ≤ i → first (run f i (n - i)) ≡ passed
unfolding first run
run_over f i n h = let e : n - i ≡ 0 = omega arith in rw e refl

pub ruleset run_laws = (run_next, run_over, first_past, first_stays)
