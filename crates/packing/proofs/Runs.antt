-- Runs of clean records of one table. Assumes nothing.
use Rattle.std.proofs.Common.{ℕ, zero, suc, ◌+◌, ◌-◌, ◌/◌, ◌<◌, ◌≤◌, true, false, ◌≡◌, refl, ◌∙◌, sym, List, ltb, eqb, length, add-zero, arith}
use borrow.Author.Tests.{eqb-true, le-leb, ne_eqb}
use Rattle.std.specs.Prelude.{Option, Some, None, MatchOption}
use Rattle.std.specs.Option.{unwrap_or}
use Rattle.answers.specs.Checks.{Check, first, run, passed}
use Rattle.answers.proofs.Loops.{Remaining, run_next}
use Rattle.answers.proofs.Laws.{first_past}
use Rattle.schema.specs.Layout.{layouts}
use Rattle.schema.specs.Tables.{tables}
use Rattle.schema.specs.Bytes.{IsRecord, byte_of}
use Rattle.packing.specs.declared.PackKind.{PackKind}
use Rattle.packing.specs.declared.PackKind.TheVariants.{Enclave, Federate}
use Rattle.packing.specs.Shape.{layout_of, shape_of}
use Rattle.packing.specs.Packing.{table_after, in_place, record_checks}
use Rattle.packing.specs.Clean.{clean}
use Rattle.packing.specs.Runs.{CleanRun}
use Rattle.identity.proofs.Tests.{cases, below_or_not, both}

-- record k is a clean one of table t
abbrev pub CleanOf : List ℕ → ℕ → ℕ → Type 0
CleanOf p t k = (byte_of p k 0 ≡ t) × (clean p k ≡ true)

-- record k is none, where the pack has it
abbrev pub NotCleanOf : List ℕ → ℕ → ℕ → Type 0
NotCleanOf p t k = IsRecord p k → byte_of p k 0 ≡ t → clean p k ≡ false

-- what a search through the records from n on, up to limit, finds
pub searched : (p : List ℕ) (t n limit : ℕ) (r : Option ℕ) → n ≤ limit → limit ≤ length p / 64
    → MatchOption r ((k : ℕ) → n ≤ k → k < limit → CleanOf p t k) (λ i. (n ≤ i) × (i < limit) × NotCleanOf p t i × ((k : ℕ) → n ≤ k → k < i → CleanOf p t k))
    → CleanRun p t n limit (unwrap_or r limit)
searched p t n limit None l w run =
    record {
      after = l;
      inside = omega arith;
      same = λ k a b. (run k a b).0;
      tidy = λ k a b. (run k a b).1;
      ended = λ h. absurd (omega arith);
    }
searched p t n limit (Some i) l w (after, below, ended, run) =
    record {
      after = after;
      inside = omega arith;
      same = λ k a b. (run k a b).0;
      tidy = λ k a b. (run k a b).1;
      ended = λ h. ended (omega arith);
    }

-- a table without identities is none of the first two
no-identities : (t : ℕ) → (layout_of t).identities ≡ 0 → 2 ≤ t
unfolding layouts
no-identities zero e = cc
no-identities (suc zero) e = cc
no-identities (suc (suc t)) e = omega arith

-- after a record of such a table that is in its place, another one of it is in its place too
known-by : (kind : PackKind) (p : List ℕ) (n : ℕ) → in_place kind p n ≡ true → 2 ≤ byte_of p n 0 → ltb (byte_of p n 0) tables ≡ true
known-by Enclave p zero e l = let z = eqb-true _ _ e in absurd (omega arith)
known-by Federate p zero e l = let z = eqb-true _ _ e in absurd (omega arith)
known-by Enclave p (suc n) e l = (both _ _ (both _ _ e).1).0
known-by Federate p (suc n) e l =
    cases (eqb (byte_of p (suc n) 0) 1)
    (λ t. let z = eqb-true _ _ t in absurd (omega arith))
    (λ f. (both _ _ (both _ _ (both _ _ (rw f at e)).1).1).0)

follows-itself : (kind : PackKind) (t : ℕ) → 2 ≤ t → ltb t tables ≡ true → table_after kind t t ≡ true
follows-itself Enclave t l e = rw (le-leb 2 t l, e, le-leb t t (omega arith)) refl
follows-itself Federate t l e =
    let o : eqb t 1 ≡ false = ne_eqb t 1 (λ z. omega arith) in
    rw (o, le-leb 1 t (omega arith), le-leb 2 t l, e, le-leb t t (omega arith)) refl

again : (kind : PackKind) (p : List ℕ) (n : ℕ) → in_place kind p n ≡ true → 2 ≤ byte_of p n 0 → byte_of p (suc n) 0 ≡ byte_of p n 0 → in_place kind p (suc n) ≡ true
again kind p n e l s = rw s (follows-itself kind (byte_of p n 0) l (known-by kind p n e l))

placed : (kind : PackKind) (p batch house : List ℕ) (n : ℕ) → first (record_checks kind p batch house n) ≡ passed → in_place kind p n ≡ true
unfolding record_checks first
placed kind p batch house n e = cases (in_place kind p n) (λ b. b) (λ b. let h = rw b at e in cc)

-- items that pass are passed over
skip : (f : ℕ → List Check) (i k n : ℕ) → ((j : ℕ) → i ≤ j → j < i + k → first (f j) ≡ passed) → i + k ≤ n → Remaining f i n → Remaining f (i + k) n
skip f i zero n h l r = rw add-zero r
skip f i (suc k) n h l r =
    let e : i + suc k ≡ i + k + 1 = omega arith in
    let s = skip f i k n (λ j a b. h j a (omega arith)) (omega arith) r in
    rw e (s ∙ rw (run_next f (i + k) n (omega arith)) (first_past (f (i + k)) _ (h (i + k) (omega arith) (omega arith))))

-- after a record of a table without identities that passes, the run of clean ones of it is passed over
module _ (kind : PackKind) (p batch house : List ℕ) (n t r : ℕ) (own : t ≡ byte_of p n 0) (none : (layout_of t).identities ≡ 0) (c : CleanRun p t (n + 1) (length p / 64) r) where
  -- its records are in their places
  in-places : in_place kind p n ≡ true → (k : ℕ) → n + k < r → (byte_of p (n + k) 0 ≡ t) × (in_place kind p (n + k) ≡ true)
  in-places i zero l = let e : n + 0 ≡ n = omega arith in rw e (sym own, i)
  in-places i (suc k) l =
      let e : n + suc k ≡ suc (n + k) = omega arith in
      let h = in-places i k (omega arith) in
      let s : byte_of p (suc (n + k)) 0 ≡ t = c.same (suc (n + k)) (omega arith) (omega arith) in
      rw e (s, again kind p (n + k) h.1 (rw h.0 (no-identities t none)) (s ∙ sym h.0))

  passes : (j : ℕ) → in_place kind p j ≡ true → byte_of p j 0 ≡ t → clean p j ≡ true → first (record_checks kind p batch house j) ≡ passed
  unfolding record_checks first run
  passes j e s d = rw (e, d, s, none) refl

  over-run : n < length p / 64 → first (record_checks kind p batch house n) ≡ passed → Remaining (record_checks kind p batch house) n (length p / 64) → Remaining (record_checks kind p batch house) r (length p / 64)
  over-run l q rest =
      let a = c.after in
      let b = c.inside in
      let e : n + (r - n) ≡ r = omega arith in
      rw e at (skip (record_checks kind p batch house) n (r - n) (length p / 64) all (omega arith) rest)
    where
      all : (j : ℕ) → n ≤ j → j < n + (r - n) → first (record_checks kind p batch house j) ≡ passed
      all j g h =
          let k : n + (j - n) ≡ j = omega arith in
          let w = rw k at (in-places (placed kind p batch house n q) (j - n) (omega arith)) in
          below_or_not n j (λ m. passes j w.1 w.0 (c.tidy j (omega arith) (omega arith))) (λ m. let s : j ≡ n = omega arith in rw s q)

pub run_passed : (kind : PackKind) (p batch house : List ℕ) (n m t r : ℕ) → CleanRun p t m (length p / 64) r → Remaining (record_checks kind p batch house) n (length p / 64) → m ≡ n + 1 → n < length p / 64 → t ≡ byte_of p n 0 → (shape_of t).identities ≡ 0 → first (record_checks kind p batch house n) ≡ passed → Remaining (record_checks kind p batch house) r (length p / 64)
run_passed kind p batch house n m t r c rest e l own none q = over-run kind p batch house n t r own none (rw e at c) l q rest
