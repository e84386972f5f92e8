-- What first and next answer, and the bytes after them, from what their checks and the search gave. Assumes nothing.
use Prim.Native.Nat.{ℕ, zero, suc, ◌+◌, ◌≤◌, ◌<◌}
use mathlib.Core.Bool.{true}
use mathlib.Core.Path.{◌≡◌, refl, sym, ◌∙◌}
use mathlib.Core.List.{List}
use native.Mathlib.Omega.{arith}
use lib.ListN.{length}
use borrow.Author.Tests.{leb-true, eqb-true, le-leb, eq-eqb}
use Rattle.std.specs.Prelude.{Some, None, Ok, Err, option_map}
use Rattle.answers.specs.declared.Refusal.{Refusal}
use Rattle.answers.specs.Checks.{first, Outcome, passed}
use Rattle.answers.proofs.Passed.{Passes, test, rest, parts}
use Rattle.identity.proofs.Tests.{both}
use Rattle.accepted.specs.Chains.{ancestor}
use Rattle.trees.specs.declared.Next.TheVariants.{Table, End}
use Rattle.trees.specs.Trees.{at_most, all_end, legal, number, digits, table_of, total, first_from}
use Rattle.trees.specs.Answer.{first_checks, next_checks, next_after, first_answer, first_bytes, next_answer, next_bytes}
use Rattle.trees.proofs.ListLaws.{first_here}

-- what the checks of first tell
pub record Counted (n : ℕ) (t : List ℕ) : Type 0 where
  pub least : 1 ≤ n
  pub most : n ≤ 4
  pub long : length t ≡ n

counted : (n : ℕ) (t : List ℕ) → first (first_checks n t) ≡ passed → Counted n t
counted n t e =
    let p : Passes (first_checks n t) = record { is = e } in
    let (l, m) = both _ _ (test p) in
    record { least = leb-true 1 n l; most = leb-true n 4 m; long = eqb-true (length t) n (test (rest p)) }

pub counted_passes : (n : ℕ) (t : List ℕ) → Counted n t → first (first_checks n t) ≡ passed
unfolding first
counted_passes n t c = rw (le-leb 1 n c.least, le-leb n 4 c.most, eq-eqb (length t) n c.long) refl

-- the table of number 0 is legal, and so it is the first
zeros_legal : (n : ℕ) → 1 ≤ n → n ≤ 4 → legal n (table_of n 0) ≡ true
unfolding digits all_end ancestor
zeros_legal zero l h = absurd (omega arith)
zeros_legal (suc zero) l h = refl
zeros_legal (suc (suc zero)) l h = refl
zeros_legal (suc (suc (suc zero))) l h = refl
zeros_legal (suc (suc (suc (suc zero)))) l h = refl
zeros_legal (suc (suc (suc (suc (suc n))))) l h = absurd (omega arith)

some_tables : (n : ℕ) → 1 ≤ n → n ≤ 4 → 0 < total n
some_tables zero l h = absurd (omega arith)
some_tables (suc zero) l h = omega arith
some_tables (suc (suc zero)) l h = omega arith
some_tables (suc (suc (suc zero))) l h = omega arith
some_tables (suc (suc (suc (suc zero)))) l h = omega arith
some_tables (suc (suc (suc (suc (suc n))))) l h = absurd (omega arith)

pub first_is_zeros : (n : ℕ) → 1 ≤ n → n ≤ 4 → Some (table_of n 0) ≡ first_from n 0
first_is_zeros n l h = first_here n 0 (some_tables n l h) (zeros_legal n l h)

module _ (n : ℕ) (t : List ℕ) where
  -- first: what its checks say, and the bytes where they refuse and where they pass
  pub first_answered : (o : Outcome) → o ≡ first (first_checks n t) → o ≡ first_answer n t
  unfolding first_answer
  first_answered o e = e

  pub first_kept : {r : Refusal} → Err r ≡ first (first_checks n t) → t ≡ first_bytes n t
  unfolding first_bytes
  first_kept e = rw (← e) refl

  pub first_room : passed ≡ first (first_checks n t) → length t ≤ 4
  first_room e = let c = counted n t (sym e) in omega (arith, c.most, c.long)

  pub first_written : passed ≡ first (first_checks n t) → table_of (length t) 0 ≡ first_bytes n t
  unfolding first_bytes
  first_written e =
      let c = counted n t (sym e) in
      let z : first_from n 0 ≡ Some (table_of n 0) = sym (first_is_zeros n c.least c.most) in
      rw (← e, z, c.long) refl

  -- next: refused, at a table, and at the end
  pub next_refused : {r : Refusal} → Err r ≡ first (next_checks n t) → Err r ≡ next_answer n t
  unfolding next_answer
  next_refused e = rw (← e) refl

  pub next_kept : {r : Refusal} → Err r ≡ first (next_checks n t) → t ≡ next_bytes n t
  unfolding next_bytes
  next_kept e = rw (← e) refl

pub ruleset first_laws = (first_answered, first_kept, first_room, first_written)

-- what the checks of next tell
pub record Given (n : ℕ) (t : List ℕ) : Type 0 where
  pub counts : Counted n t
  pub within : at_most n t ≡ true
  pub ends : legal n t ≡ true

pub given : (n : ℕ) (t : List ℕ) → first (next_checks n t) ≡ passed → Given n t
given n t e =
    let p : Passes (next_checks n t) = record { is = e } in
    let q = parts (first_checks n t) _ p in
    record { counts = counted n t (q.0).is; within = test q.1; ends = test (rest q.1) }

pub given_passes : (n : ℕ) (t : List ℕ) → Given n t → first (next_checks n t) ≡ passed
unfolding first
given_passes n t g =
    let c = g.counts in
    rw (le-leb 1 n c.least, le-leb n 4 c.most, eq-eqb (length t) n c.long, g.within, g.ends) refl

module _ (n : ℕ) (t : List ℕ) where
  pub given_least : passed ≡ first (next_checks n t) → 1 ≤ n
  given_least e = (given n t (sym e)).counts.least

  pub given_most : passed ≡ first (next_checks n t) → n ≤ 4
  given_most e = (given n t (sym e)).counts.most

  pub given_room : passed ≡ first (next_checks n t) → length t ≤ 4
  given_room e = let c = (given n t (sym e)).counts in omega (arith, c.most, c.long)

  pub given_within : passed ≡ first (next_checks n t) → at_most (length t) t ≡ true
  given_within e = let g = given n t (sym e) in rw g.counts.long g.within

  module _ {m : ℕ} (e : passed ≡ first (next_checks n t)) (is : m ≡ number (length t) t) where
    after : first_from n (m + 1) ≡ next_after n t
    after = rw (is, (given n t (sym e)).counts.long) refl

    -- the search found number v, or none
    pub next_answered : (v : ℕ) → option_map (λ w. table_of n w) (Some v) ≡ first_from n (m + 1) → Ok Table ≡ next_answer n t
    unfolding next_answer
    next_answered v f = rw (← e, sym (f ∙ after)) refl

    pub next_written : (v : ℕ) → option_map (λ w. table_of n w) (Some v) ≡ first_from n (m + 1) → table_of (length t) v ≡ next_bytes n t
    unfolding next_bytes
    next_written v f = rw (← e, sym (f ∙ after), (given n t (sym e)).counts.long) refl

    pub end_answered : None ≡ first_from n (m + 1) → Ok End ≡ next_answer n t
    unfolding next_answer
    end_answered f = rw (← e, sym (f ∙ after)) refl

    pub end_kept : None ≡ first_from n (m + 1) → t ≡ next_bytes n t
    unfolding next_bytes
    end_kept f = rw (← e, sym (f ∙ after)) refl

pub ruleset next_laws = (next_kept, given_least, given_most, given_room, given_within, next_answered, next_written, end_answered, end_kept)
