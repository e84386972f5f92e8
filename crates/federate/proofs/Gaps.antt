-- What a walk over the enclaves knows of the records before it. Assumes nothing.
use Rattle.std.proofs.Common.{ℕ, zero, suc, ◌+◌, ◌-◌, ◌<◌, ◌≤◌, true, false, ◌≡◌, refl, ◌∙◌, List, add-one, arith}
use borrow.Author.Tests.{lt-ltb}
use Rattle.std.specs.Prelude.{Some, None}
use Rattle.identity.proofs.Tests.{cases}
use Rattle.schema.specs.Records.{records_of, is_of, count_below}
use Rattle.schema.proofs.Counts.{count_none, count_next}
use Rattle.federate.specs.Records.{enclaves_before, enclave_before, last_before, enclave_from, enclave_end}
use Rattle.federate.proofs.Ends.{from-within}

-- from record n on, no enclave is passed over: m is the next one's record, or the end of the k records looked at
pub record Gap (p : List ℕ) (n k m : ℕ) : Type 0 where
  pub found : m < n + k → is_of p 1 m ≡ true
  pub counted : enclaves_before p m ≡ enclaves_before p n
  pub last : enclave_before p m ≡ enclave_before p n

gap-here : (p : List ℕ) (n k : ℕ) → is_of p 1 n ≡ true → Gap p n (suc k) n
gap-here p n k t = record { found = λ h. t; counted = refl; last = refl }

gap-on : (p : List ℕ) (n k m : ℕ) → is_of p 1 n ≡ false → Gap p (suc n) k m → Gap p n (suc k) m
unfolding enclave_before
gap-on p n k m f g =
    let c = rw f at (count_next (is_of p 1) n) in
    let e : n + 1 ≡ suc n = add-one n in
    let d = rw e at c in
    let counted = g.counted in
    record { found = λ h. g.found (omega arith); counted = omega arith; last = g.last ∙ rw f refl }

pub gap : (p : List ℕ) (k n : ℕ) → Gap p n k (enclave_from p n k)
unfolding enclave_from
gap p zero n = record { found = λ h. absurd (omega arith); counted = refl; last = refl }
gap p (suc k) n = cases (is_of p 1 n) (λ t. rw t (gap-here p n k t)) (λ f. rw f (gap-on p n k _ f (gap p k (suc n))))

pub places_few : (p : List ℕ) (n : ℕ) → enclaves_before p n ≤ n
unfolding count_below
places_few p zero = omega arith
places_few p (suc n) = let h = places_few p n in cases (is_of p 1 n) (λ t. rw t (omega arith)) (λ f. rw f (omega arith))

-- before the first enclave
module _ (p : List ℕ) (m : ℕ) (e : m ≡ enclave_from p 0 (records_of p - 0)) where
  first : Gap p 0 (records_of p - 0) m
  first = rw e (gap p (records_of p - 0) 0)

  pub start_within : m ≤ records_of p
  start_within = let h = (from-within p (records_of p - 0) 0).1 in omega arith

  pub start_found : m < records_of p → is_of p 1 m ≡ true
  start_found l = first.found (omega arith)

  pub start_counted : 0 ≡ enclaves_before p m
  start_counted = let h = first.counted in let z = count_none (is_of p 1) in omega arith

  pub start_last : None ≡ last_before p m
  start_last = let z = start_counted in rw (← z) refl

-- after the enclave of record n
module _ (p : List ℕ) (n m : ℕ) (l : n < records_of p) (t : is_of p 1 n ≡ true) (e : m ≡ enclave_from p (n + 1) (records_of p - (n + 1))) where
  next : Gap p (n + 1) (records_of p - (n + 1)) m
  next = rw e (gap p (records_of p - (n + 1)) (n + 1))

  pub end_is : m ≡ enclave_end p n
  end_is = rw (e, add-one) refl

  pub end_after : n < m
  end_after = let h = (from-within p (records_of p - (n + 1)) (n + 1)).0 in omega arith

  pub end_within : m ≤ records_of p
  end_within = let h = (from-within p (records_of p - (n + 1)) (n + 1)).1 in omega arith

  pub end_found : m < records_of p → is_of p 1 m ≡ true
  end_found g = next.found (omega arith)

  pub end_counted : (place : ℕ) → place ≡ enclaves_before p n → place + 1 ≡ enclaves_before p m
  end_counted place c = let h = next.counted in let z = rw t at (count_next (is_of p 1) n) in omega arith

  pub end_last : Some n ≡ last_before p m
  unfolding enclave_before
  end_last =
      let c = end_counted (enclaves_before p n) refl in
      let b : enclave_before p m ≡ n = next.last ∙ rw (add-one, t) refl in
      rw (lt-ltb 0 (enclaves_before p m) (omega arith), b) refl

pub ruleset walk_laws = (start_within, start_found, start_counted, start_last, end_is, end_after, end_within, end_found, end_counted, end_last, places_few)
