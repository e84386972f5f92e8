-- What the check of S with a table's scopes comes to: the parents that it reads are the table's, and only a cycle is left to be refused. Assumes nothing.
use Prim.Native.Nat.{ℕ, zero, suc, ◌+◌, ◌<◌, ◌≤◌}
use mathlib.Core.Path.{◌≡◌, refl, ap, ◌∙◌}
use mathlib.Core.List.{List, [], ◌∷◌, map}
use native.Mathlib.Omega.{arith}
use lib.ListN.{get_or}
use borrow.Author.Tests.{lt-ltb}
use Rattle.std.specs.Prelude.{Option, Err}
use Rattle.answers.specs.declared.Refusal.{Refusal}
use Rattle.answers.specs.Checks.{Check, first, run, passed}
use Rattle.answers.proofs.Laws.{first_past, first_stops}
use Rattle.identity.proofs.Tests.{below_or_not}
use Rattle.schema.specs.Indexes.{ScopeIndex}
use Rattle.schema.specs.Number.{number}
use Rattle.scope_checks.specs.Scopes.{parent_checks}
use Rattle.scope_checks.specs.Links.{followed, links_of, links_below}
use Rattle.cases.specs.Packs.{bytes}
use Rattle.trees.specs.Trees.{parent_of, parents_in}
use Rattle.trees_in_s.proofs.Variables.{listed, reference}

-- a parent's number, written in four bytes and read again, is the same
pub reference_small : (r : ℕ) → r ≤ 4 → reference r ≡ parent_of r
unfolding reference number bytes
reference_small zero h = refl
reference_small (suc zero) h = refl
reference_small (suc (suc zero)) h = refl
reference_small (suc (suc (suc zero))) h = refl
reference_small (suc (suc (suc (suc zero)))) h = refl
reference_small (suc (suc (suc (suc (suc r))))) h = absurd (omega arith)

pub listed_at : (f : ℕ → Option ScopeIndex) (i n : ℕ) (t : List ℕ) → listed f i n ≡ map reference t → (j : ℕ) → j < n → f (i + j) ≡ reference (get_or t j 0)
unfolding listed
listed_at f i zero t e j h = absurd (omega arith)
listed_at f i (suc n) [] e j h = let z : ◌≡◌ {A = ℕ} 0 1 = cc in absurd (omega arith)
listed_at f i (suc n) (a ∷ t) e zero h = let x : i + 0 ≡ i = omega arith in rw x cc
listed_at f i (suc n) (a ∷ t) e (suc j) h =
    let x : i + suc j ≡ suc i + j = omega arith in
    rw x (listed_at f (suc i) n t (cc) j (omega arith))

-- a run whose items pass, and one that stops at item s
pub run_passes : (f : ℕ → List Check) (i n : ℕ) → ((k : ℕ) → i ≤ k → k < i + n → first (f k) ≡ passed) → first (run f i n) ≡ passed
unfolding run first
run_passes f i zero h = refl
run_passes f i (suc n) h =
    first_past (f i) (run f (suc i) n) (h i (omega arith) (omega arith)) ∙ run_passes f (suc i) n (λ k l m. h k (omega arith) (omega arith))

pub run_stops :
    (f : ℕ → List Check) (i n s : ℕ) {r : Refusal} → i ≤ s → s < i + n → ((k : ℕ) → i ≤ k → k < s → first (f k) ≡ passed) → first (f s) ≡ Err r
    → first (run f i n) ≡ Err r
unfolding run
run_stops f i zero s l m h e = absurd (omega arith)
run_stops f i (suc n) s l m h e =
    below_or_not i s
    (λ g. first_past (f i) (run f (suc i) n) (h i (omega arith) g) ∙ run_stops f (suc i) n s (omega arith) (omega arith) (λ k u v. h k (omega arith) v) e)
    (λ g. let z : i ≡ s = omega arith in first_stops (f i) (run f (suc i) n) (rw z e))

ref_passes : (n i r : ℕ) → r ≤ n → first (parent_checks (λ k. n) i (parent_of r)) ≡ passed
unfolding first parent_checks
ref_passes n i zero h = refl
ref_passes n i (suc p) h = rw (lt-ltb p n (omega arith)) refl

-- f reads the parents of the n bytes of t, each at most n
module _ (f : ℕ → Option ScopeIndex) (n : ℕ) (t : List ℕ) (same : (i : ℕ) → i < n → f i ≡ parents_in t i) (small : (i : ℕ) → get_or t i 0 ≤ n) where
  same_followed : (k r : ℕ) → r ≤ n → followed f k (parent_of r) ≡ followed (parents_in t) k (parent_of r)
  unfolding followed
  same_followed zero r h = refl
  same_followed (suc k) zero h = refl
  same_followed (suc k) (suc p) h = ap suc (rw (same p (omega arith)) (same_followed k (get_or t p 0) (small p)))

  pub same_links : (i : ℕ) → i < n → links_of f n i ≡ links_of (parents_in t) n i
  same_links i h = rw (same i h) (same_followed n (get_or t i 0) (small i))

  pub same_below : (k : ℕ) → k ≤ n → links_below f n k ≡ links_below (parents_in t) n k
  unfolding links_below
  same_below zero h = refl
  same_below (suc k) h = rw (same_below k (omega arith), same_links k (omega arith)) refl

  pub refs_pass : first (run (λ i. parent_checks (λ k. n) i (f i)) 0 n) ≡ passed
  refs_pass = run_passes (λ i. parent_checks (λ k. n) i (f i)) 0 n (λ i l m. rw (same i (omega arith)) (ref_passes n i (get_or t i 0) (small i)))
