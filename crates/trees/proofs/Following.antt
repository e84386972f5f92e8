-- First and then next, until the end, give the list of legal tables. Assumes nothing.
use Prim.Native.Nat.{ℕ, zero, suc, ◌+◌, ◌<◌, ◌≤◌}
use mathlib.Core.Bool.{true}
use mathlib.Core.Path.{◌≡◌, refl, sym, ap, ◌∙◌}
use mathlib.Core.List.{List, [], ◌∷◌}
use native.Mathlib.Numerals.{add-one}
use native.Mathlib.Omega.{arith}
use lib.ListN.{length}
use Rattle.std.specs.Prelude.{Option, Some, None}
use Rattle.answers.specs.Checks.{first, passed, answer_of}
use Rattle.identity.proofs.Tests.{cases}
use Rattle.trees.specs.Trees.{legal, table_of, total, legal_from, first_from}
use Rattle.trees.specs.Answer.{first_checks, next_checks, next_after, found, replaced, first_bytes, next_answer, next_bytes}
use Rattle.trees.specs.Promises.{onward, following}
use Rattle.trees.proofs.TreeLaws.{at_most_from}
use Rattle.trees.proofs.NumberLaws.{digits_length, digits_below, value_digits}
use Rattle.trees.proofs.ListLaws.{step_legal, step_other, step_none}
use Rattle.trees.proofs.AnswerLaws.{Counted, counted_passes, given_passes, first_is_zeros}

-- what follows a table, where there is one
onward_from : ℕ → ℕ → Option (List ℕ) → List (List ℕ)
onward_from n k None = []
onward_from n k (Some t) = following n k t

next_on : (n k : ℕ) (t : List ℕ) → first (next_checks n t) ≡ passed → onward (next_answer n t) (following n k (next_bytes n t)) ≡ onward_from n k (next_after n t)
unfolding next_answer next_bytes onward_from
next_on n k t e = rw e (by (next_after n t))
  where
    by : (o : Option (List ℕ)) → onward (answer_of passed (found o)) (following n k (replaced passed o t)) ≡ onward_from n k o
    by None = refl
    by (Some u) = refl

module _ (n : ℕ) (least : 1 ≤ n) (most : n ≤ 4) where
  table_long : (v : ℕ) → Counted n (table_of n v)
  table_long v = record { least = least; most = most; long = digits_length (n + 1) n v }

  table_passes : (v : ℕ) → legal n (table_of n v) ≡ true → first (next_checks n (table_of n v)) ≡ passed
  table_passes v e =
      given_passes n (table_of n v)
      (record { counts = table_long v; within = at_most_from n (table_of n v) (λ i. let h = digits_below (n + 1) n v (omega arith) i in omega arith); ends = e })

  after_table : (v : ℕ) → v < total n → next_after n (table_of n v) ≡ first_from n (suc v)
  after_table v h = let e = value_digits (n + 1) n v (omega arith) h in rw (e, add-one) refl

  -- j more numbers up to the total, which k tables are enough for
  from_on : (j v k : ℕ) → v + j ≡ total n → j ≤ k → onward_from n k (first_from n v) ≡ legal_from n v
  unfolding onward_from following
  from_on zero v k e l = rw (step_none n v (omega arith)) refl
  from_on (suc j) v k e l =
      let h : v < total n = omega arith in
      cases (legal n (table_of n v))
      (λ u. rw (step_legal n v h u) (here k l u (λ m o. from_on j (suc v) m (omega arith) o)))
      (λ u. rw (step_other n v h u) (from_on j (suc v) k (omega arith) (omega arith)))
    where
      here :
          (k : ℕ) → suc j ≤ k → legal n (table_of n v) ≡ true → ((m : ℕ) → j ≤ m → onward_from n m (first_from n (suc v)) ≡ legal_from n (suc v))
          → following n k (table_of n v) ≡ table_of n v ∷ legal_from n (suc v)
      here zero l u rest = absurd (omega arith)
      here (suc k) l u rest =
          ap (λ ts. table_of n v ∷ ts)
          (next_on n k (table_of n v) (table_passes v u)
          ∙ ap (λ o. onward_from n k o) (after_table v (omega arith))
          ∙ rest k (omega arith))

  pub first_on : (t : List ℕ) (k : ℕ) → length t ≡ n → total n ≤ k → following n k (first_bytes n t) ≡ legal_from n 0
  unfolding first_bytes onward_from
  first_on t k e l =
      let p : first (first_checks n t) ≡ passed = counted_passes n t (record { least = least; most = most; long = e }) in
      let z : first_from n 0 ≡ Some (table_of n 0) = sym (first_is_zeros n least most) in
      let f : onward_from n k (first_from n 0) ≡ legal_from n 0 = from_on (total n) 0 k (omega arith) l in
      rw (p, z) (rw z at f)
