-- What document 02 promises of a record that is changed or tried first holds. Assumes nothing.
use Prim.Native.Nat.{ℕ, ◌+◌, ◌*◌, ◌/◌, ◌≤◌, ◌<◌}
use mathlib.Core.Path.{◌≡◌, refl, ◌∙◌, sym}
use mathlib.Core.List.{List, [], ◌∷◌}
use lib.ListN.{length, get_or}
use borrow.Author.Tests.{eq-eqb, lt-ltb}
use Rattle.std.specs.Prelude.{◌⊎◌, Ok, Err}
use Rattle.std.proofs.Common.{inl, inr}
use Rattle.answers.specs.Checks.{first, Outcome, passed}
use Rattle.answers.proofs.Passed.{rest, equal}
use Rattle.schema.specs.Bytes.{byte_of}
use Rattle.enclave.specs.Answer.{left_by}
use Rattle.enclave.proofs.Accepted.{no_refusal}
use Rattle.federate.specs.Records.{enclaves_of}
use Rattle.federate.specs.Answer.{federate_links}
use Rattle.accepted.specs.Worth.{LineAccepted}
use Rattle.change.specs.Change.{changed, line_checks, length_check, place_checks, change_outcome, line_yes, change_answer, pack_after}
use Rattle.change.specs.Promises.{MayChange, AcceptedExactly, Written, Untouched, OnlyTheRecord, RecordIsRow, PreviewIsChange}
use Rattle.change.proofs.Steps.{line-answer, in-steps, line-passes, place-passes, new-passes, all-sized, all-there}
use Rattle.change.proofs.After.{yes, new-pack, old-pack}
use Rattle.change.proofs.Bytes.{changed-length, changed-before, changed-behind, changed-record}

sized-passes : (row : List ℕ) → length row ≡ 64 → first (length_check row ∷ []) ≡ passed
unfolding first
sized-passes row e = rw (eq-eqb (length row) 64 e) refl

placed-passes : (p : List ℕ) (n : ℕ) (row : List ℕ) → n < length p / 64 → get_or row 0 0 ≡ byte_of p n 0 → first (place_checks p n row) ≡ passed
unfolding first
placed-passes p n row l e = rw (lt-ltb n (length p / 64) l, eq-eqb (get_or row 0 0) (byte_of p n 0) e) refl

module _ (p batch house : List ℕ) (n : ℕ) (row : List ℕ) (s c : ℕ) where
  -- a line whose checks pass is accepted
  present : first (line_checks p batch house) ≡ passed → (t : ℕ) × (d : ℕ) × LineAccepted p batch house t d
  present h = (enclaves_of p, federate_links p batch house, line-answer p batch house ∙ rw h refl)

  may-change : change_answer p batch house n row ≡ 0 ∷ s ∷ c ∷ [] → MayChange p batch house n row s c
  may-change e =
      let (o, y) = yes p batch house n row e in
      record {
        sized = all-sized p batch house n row o;
        present = present (line-passes p batch house n row o).is;
        there = all-there p batch house n row o;
        same_table = equal (rest (place-passes p batch house n row o));
        new_line = line-answer (changed p n row) batch house ∙ rw (new-passes p batch house n row o).is y;
      }

  changes : MayChange p batch house n row s c → change_answer p batch house n row ≡ 0 ∷ s ∷ c ∷ []
  changes m =
      let (t, d, h) = m.present in
      let sized : first (length_check row ∷ []) ≡ passed = sized-passes row m.sized in
      let before : first (line_checks p batch house) ≡ passed =
      (no_refusal (first (line_checks p batch house)) (line_yes p batch house) (t ∷ d ∷ []) (sym (line-answer p batch house) ∙ h)).0
      in
      let placed : first (place_checks p n row) ≡ passed = placed-passes p n row m.there m.same_table in
      in-steps p batch house n row ∙ rw (sized, before, placed) m.new_line

pub accepted_exactly : AcceptedExactly
accepted_exactly p batch house n row s c = (may-change p batch house n row s c, changes p batch house n row s c)

pub written : Written
written p batch house n row s c e =
    let after = new-pack p batch house n row e in
    (after, rw after (may-change p batch house n row s c e).new_line)

pub untouched : Untouched
untouched p batch house n row r e = old-pack p batch house n row r e

-- q has p's length, and its bytes but for those of record n
abbrev KeepsOthers : List ℕ → ℕ → List ℕ → Type 0
KeepsOthers p n q = (length q ≡ length p) × ((i : ℕ) → (i < n * 64) ⊎ (n * 64 + 64 ≤ i) → get_or q i 0 ≡ get_or p i 0)

pub only_the_record : OnlyTheRecord
unfolding pack_after
only_the_record p batch house n row = go (change_outcome p batch house n row) refl
  where
    go : (o : Outcome) → change_outcome p batch house n row ≡ o → KeepsOthers p n (left_by o (changed p n row) p)
    go (Ok u) e =
        let l = all-there p batch house n row e in
        let w = all-sized p batch house n row e in
        (changed-length p n row l w, λ i h. elim h [ inl b ↦ changed-before p n row l w i b | inr g ↦ changed-behind p n row l w i g ])
    go (Err r) e = (refl, λ i h. refl)

pub record_is_row : RecordIsRow
record_is_row p batch house n row s c e j l =
    let o = (yes p batch house n row e).0 in
    rw (new-pack p batch house n row e) (changed-record p n row (all-there p batch house n row o) (all-sized p batch house n row o) j l)

pub preview_is_change : PreviewIsChange
preview_is_change p copy batch house n row previewed done e a b = a ∙ sym (rw e at b)
