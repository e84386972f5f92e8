-- What the loop over the enclaves knows at night: the records before it pass. Assumes nothing.
use Rattle.std.proofs.Common.{ℕ, zero, suc, ◌+◌, ◌-◌, ◌<◌, ◌≤◌, true, false, ◌≡◌, refl, ◌∙◌, List, [], add-one, arith}
use Rattle.std.specs.Prelude.{Err}
use Rattle.identity.proofs.Tests.{cases}
use Rattle.answers.specs.declared.Refusal.{Refusal}
use Rattle.answers.specs.Checks.{Check, first, run, passed}
use Rattle.answers.proofs.Laws.{first_past, first_stops}
use Rattle.answers.proofs.Loops.{Remaining, run_next, run_over}
use Rattle.schema.specs.Records.{records_of, is_of}
use Rattle.checks.specs.Image.{Image}
use Rattle.scope_checks.specs.Depths.{Known}
use Rattle.federate.specs.Records.{enclaves_before, enclave_from, enclave_end}
use Rattle.federate.specs.Enclaves.{image_at}
use Rattle.night.specs.Enclaves.{night_enclave_checks, enclave_routes, night_record_checks}

-- where no depths are lent, none is wrong
pub known_empty : (m : Image) → Known m []
unfolding Known
known_empty m i h = absurd (omega arith)

module _ (p batch house : List ℕ) where
  abbrev pub at_record : ℕ → List Check
  at_record = night_record_checks p batch house

  -- a record that is an enclave's, and one that is none's
  pub own_checks :
      (n place : ℕ) → is_of p 1 n ≡ true → place ≡ enclaves_before p n
      → first (night_enclave_checks place (image_at p batch house n) (enclave_routes p n)) ≡ first (at_record n)
  unfolding night_record_checks
  own_checks n place t e = rw (t, e) refl

  other : (n : ℕ) → is_of p 1 n ≡ false → first (at_record n) ≡ passed
  unfolding night_record_checks first
  other n e = rw e refl

  step : (n : ℕ) → n < records_of p → first (at_record n) ≡ passed → Remaining at_record n (records_of p) → Remaining at_record (n + 1) (records_of p)
  step n l e r = r ∙ rw (run_next at_record n (records_of p) l) (first_past (at_record n) _ e)

  -- up to the next enclave's record, of k records looked at
  gap : (k n : ℕ) → n + k ≤ records_of p → Remaining at_record n (records_of p) → Remaining at_record (enclave_from p n k) (records_of p)
  unfolding enclave_from
  gap zero n h r = r
  gap (suc k) n h r =
      cases (is_of p 1 n)
      (λ t. rw t r)
      (λ f. rw f (gap k (suc n) (omega arith) (rw add-one at (step n (omega arith) (other n f) r))))

  pub gap_start : (m : ℕ) → m ≡ enclave_from p 0 (records_of p) → Remaining at_record m (records_of p)
  gap_start m e = rw e (gap (records_of p) 0 (omega arith) (let z : records_of p - 0 ≡ records_of p = omega arith in rw z refl))

  module _ (n : ℕ) (r : Remaining at_record n (records_of p)) where
    pub gap_refused : {q : Refusal} → n < records_of p → first (at_record n) ≡ Err q → first (run at_record 0 (records_of p)) ≡ Err q
    gap_refused l e = r ∙ rw (run_next at_record n (records_of p) l) (first_stops (at_record n) _ e)

    pub gap_next : (m : ℕ) → n < records_of p → first (at_record n) ≡ passed → m ≡ enclave_end p n → Remaining at_record m (records_of p)
    gap_next m l e g =
        rw g (gap (records_of p - suc n) (suc n) (omega arith) (rw add-one at (step n l e r)))

    pub gap_over : records_of p ≤ n → first (run at_record 0 (records_of p)) ≡ passed
    gap_over h = r ∙ run_over at_record n (records_of p) h

pub ruleset gap_laws = (gap_start, gap_refused, gap_next, gap_over)
