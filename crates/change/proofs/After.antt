-- What a change leaves of the pack, by its answer. Assumes nothing.
use Prim.Native.Nat.{ℕ, ◌/◌, ◌<◌}
use mathlib.Core.Path.{◌≡◌, refl, sym, ap}
use mathlib.Core.List.{List, ◌∷◌}
use native.Mathlib.Omega.{arith}
use lib.ListN.{length, get_or}
use Rattle.std.specs.Prelude.{Ok, Err}
use Rattle.answers.specs.declared.Refusal.{Refusal}
use Rattle.answers.specs.Numbers.{numbers}
use Rattle.answers.specs.Checks.{Outcome, passed}
use Rattle.answers.proofs.RefusalNumbers.{number-positive}
use Rattle.enclave.specs.Answer.{unless, left_by}
use Rattle.enclave.proofs.Accepted.{no_refusal}
use Rattle.federate.specs.declared.FederateAccepted.{FederateAccepted}
use Rattle.federate.specs.Answer.{federate_numbers}
use Rattle.change.specs.Change.{changed, change_outcome, line_yes, change_answer, pack_after}
use Rattle.change.proofs.Steps.{all-sized, all-there}

module _ (p batch house : List ℕ) (n : ℕ) (row : List ℕ) where
  -- a yes is no refusal's answer: all checks pass, and it is the new line's
  pub yes :
      {ns : List ℕ} → change_answer p batch house n row ≡ 0 ∷ ns
      → (change_outcome p batch house n row ≡ passed) × (line_yes (changed p n row) batch house ≡ 0 ∷ ns)
  unfolding change_answer
  yes {ns} e = no_refusal (change_outcome p batch house n row) (line_yes (changed p n row) batch house) ns e

  pub new-pack : {ns : List ℕ} → change_answer p batch house n row ≡ 0 ∷ ns → pack_after p batch house n row ≡ changed p n row
  unfolding pack_after
  new-pack e = rw (yes e).0 refl

  pub old-pack : (r : Refusal) → change_answer p batch house n row ≡ numbers r → pack_after p batch house n row ≡ p
  unfolding change_answer pack_after
  old-pack r e = go (change_outcome p batch house n row) e
    where
      go : (o : Outcome) → unless o (line_yes (changed p n row) batch house) ≡ numbers r → left_by o (changed p n row) p ≡ p
      go (Ok u) z = let h : 0 ≡ get_or (numbers r) 0 0 = ap (λ xs. get_or xs 0 0) z in absurd (omega (arith, number-positive r))
      go (Err q) z = refl

  -- the same of what a preview answered
  pub row-accepted : (a : FederateAccepted) → federate_numbers (Ok a) ≡ change_answer p batch house n row → length row ≡ 64
  row-accepted a e = all-sized p batch house n row (yes (sym e)).0

  pub record-accepted : (a : FederateAccepted) → federate_numbers (Ok a) ≡ change_answer p batch house n row → n < length p / 64
  record-accepted a e = all-there p batch house n row (yes (sym e)).0

  pub after-accepted : (a : FederateAccepted) → federate_numbers (Ok a) ≡ change_answer p batch house n row → changed p n row ≡ pack_after p batch house n row
  after-accepted a e = sym (new-pack (sym e))

  pub after-refused : (r : Refusal) → numbers r ≡ change_answer p batch house n row → p ≡ pack_after p batch house n row
  after-refused r e = sym (old-pack r (sym e))

pub ruleset change_laws = (row-accepted, record-accepted, after-accepted, after-refused)
