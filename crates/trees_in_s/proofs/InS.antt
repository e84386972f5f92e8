-- S with the scopes of a legal table is accepted with its links, and with those of any other table refused by 18. Assumes nothing.
use Prim.Native.Nat.{ℕ, zero, suc, ◌+◌, ◌<◌, ◌≤◌}
use mathlib.Core.Logic.{◌⊎◌, inl, inr}
use mathlib.Core.Path.{◌≡◌, refl, sym, ◌∙◌}
use mathlib.Core.List.{List, [], ◌∷◌}
use native.Mathlib.Omega.{arith}
use lib.ListN.{get_or}
use Rattle.std.specs.Prelude.{None, Ok, Err}
use Rattle.answers.specs.declared.Refusal.TheVariants.{ScopeParentCycle}
use Rattle.answers.specs.Numbers.{numbers}
use Rattle.answers.specs.Checks.{first, passed, answer_of}
use Rattle.answers.proofs.Laws.{answered, not_answered}
use Rattle.identity.proofs.Tests.{cases, below_or_not, failed}
use Rattle.scope_checks.specs.Links.{links_of, links_below, parents, links, cycle_checks}
use Rattle.scope_checks.proofs.LinksLaws.{links_end, links_circle}
use Rattle.enclave.specs.Passes.{enclave_checks}
use Rattle.enclave.specs.Answer.{image_result, image_answer, enclave_answer}
use Rattle.enclave.proofs.Whole.{rows, scopes, cycles, cycle_refused, image_accepted, pack_answer}
use Rattle.accepted.specs.Chains.{ancestor}
use Rattle.accepted.proofs.Chains.{not_before}
use Rattle.cases.specs.Packs.{ab}
use Rattle.trees.specs.Trees.{parents_in, ends}
use Rattle.trees.specs.Promises.{ParentTable, EveryChainEnds}
use Rattle.trees.proofs.TreeLaws.{is_end, few_end}
use Rattle.trees.proofs.Ending.{ends_at_all}
use Rattle.trees_in_s.specs.TreesInS.{s_with, LegalAccepted, FirstEndless, OthersRefused}
use Rattle.trees_in_s.proofs.Variables.{image_with, Reads, reads}
use Rattle.trees_in_s.proofs.Checked.{reference_small, listed_at, run_passes, run_stops, same_links, same_below, refs_pass}

module _ (n : ℕ) (most : n ≤ 4) (t : List ℕ) (p : ParentTable n t) (r : Reads n t) where
  same : (i : ℕ) → i < n → parents (image_with t) i ≡ parents_in t i
  same i l =
      let z : 0 + i ≡ i = omega arith in
      rw z at (listed_at (parents (image_with t)) 0 n t r.references i l) ∙ reference_small (get_or t i 0) (let h = p.1 i in omega arith)

  rows_pass : first (rows (image_with t)) ≡ passed
  rows_pass = r.rows

  scopes_pass : first (scopes (image_with t)) ≡ passed
  scopes_pass = r.scopes ∙ refs_pass (parents (image_with t)) n t same p.1

  -- a scope's links by the check are those of the table
  links_are : (i : ℕ) → i < n → links_of (parents (image_with t)) ((image_with t).rows 7) i ≡ links_of (parents_in t) n i
  links_are i l = rw r.count (same_links (parents (image_with t)) n t same p.1 i l)

  cycle_passes : (i : ℕ) → i < n → links_of (parents_in t) n i < n → first (cycle_checks (image_with t) i) ≡ passed
  cycle_passes i l h =
      let e = links_are i l in
      let c = r.count in
      links_end (image_with t) i (omega arith)

  cycle_stops : (i : ℕ) → i < n → n ≤ links_of (parents_in t) n i → first (cycle_checks (image_with t) i) ≡ Err (ScopeParentCycle i)
  cycle_stops i l h =
      let e = links_are i l in
      let c = r.count in
      links_circle (image_with t) i (omega arith)

  ends_few : (i k : ℕ) → i < n → ancestor (parents_in t) k i ≡ None → links_of (parents_in t) n i < n
  ends_few i k l e = not_before (parents_in t) n i n (is_end n t i (ends_at_all n t i k p l e))

  accepted : EveryChainEnds n t → enclave_answer (s_with t) ab [] ≡ 0 ∷ links_below (parents_in t) n n ∷ []
  unfolding image_answer image_result
  accepted h =
      let c : first (cycles (image_with t)) ≡ passed =
      rw r.count (run_passes (cycle_checks (image_with t)) 0 n (λ i l u. let e = h i (omega arith) in cycle_passes i (omega arith) (ends_few i e.0 (omega arith) e.1))) in
      let g : answer_of (first (cycles (image_with t))) (links (image_with t)) ≡ Ok (links (image_with t)) = rw c refl in
      let a = (answered (first (enclave_checks (image_with t))) (links (image_with t)) (image_accepted (image_with t) rows_pass scopes_pass g r.lists)).0 in
      let s : links (image_with t) ≡ links_below (parents_in t) n n = rw r.count (same_below (parents (image_with t)) n t same p.1 n (omega arith)) in
      pack_answer (s_with t) ab [] r.packed ∙ rw (a, s) refl

  refused : (s : ℕ) → FirstEndless n t s → enclave_answer (s_with t) ab [] ≡ 18 ∷ s ∷ []
  unfolding image_answer image_result numbers
  refused s f =
      let long : n ≤ links_of (parents_in t) n s =
      below_or_not (links_of (parents_in t) n s) n (λ l. absurd (f.1 n (few_end (parents_in t) n s l))) (λ l. l) in
      let c : first (cycles (image_with t)) ≡ Err (ScopeParentCycle s) =
      rw r.count
      (run_stops (cycle_checks (image_with t)) 0 n s (omega arith) (omega (arith, f.0))
      (λ i l u. let e = f.2 i u in cycle_passes i (omega (arith, f.0)) (ends_few i e.0 (omega (arith, f.0)) e.1))
      (cycle_stops s f.0 long)) in
      let g : answer_of (first (cycles (image_with t))) (links (image_with t)) ≡ Err (ScopeParentCycle s) = rw c refl in
      let a = not_answered (first (enclave_checks (image_with t))) (links (image_with t)) (cycle_refused (image_with t) rows_pass scopes_pass g) in
      pack_answer (s_with t) ab [] r.packed ∙ rw a refl

-- of the first k scopes, the chain of each ends, or there is a first that goes on
first_endless : (n : ℕ) (t : List ℕ) → ParentTable n t → (k : ℕ) → k ≤ n → EveryChainEnds k t ⊎ ((s : ℕ) × FirstEndless n t s)
first_endless n t p zero h = inl (λ i l. absurd (omega arith))
first_endless n t p (suc k) h = elim (first_endless n t p k (omega arith)) [ inl e ↦ more e | inr f ↦ inr f ]
  where
    more : EveryChainEnds k t → EveryChainEnds (suc k) t ⊎ ((s : ℕ) × FirstEndless n t s)
    more e =
        cases (ends n t k)
        (λ u. inl (λ i l. below_or_not i k (λ g. e i g) (λ g. let z : i ≡ k = omega arith in rw z (n, is_end n t k u))))
        (λ u. inr (k, (omega arith, λ j v. failed (sym u ∙ ends_at_all n t k j p (omega arith) v), e)))

pub legal_accepted : LegalAccepted
legal_accepted n l h t p e = accepted n h t p (reads n l h t p.0) e

pub others_refused : OthersRefused
others_refused n l h t p f =
    elim (first_endless n t p n (omega arith)) [
      | inl e ↦ absurd (f e)
      | inr s ↦ (s.0, s.1, refused n h t p (reads n l h t p.0) s.0 s.1)
    ]
