-- Two packs whose images have one answer of the check, and the same triggers where it accepts, have one answer of the second check and to the question.
-- Assumes nothing.
use Prim.Native.Nat.{ℕ, ◌<◌}
use mathlib.Core.Path.{◌≡◌, refl, ◌∙◌, sym}
use mathlib.Core.List.{List, [], ◌∷◌}
use Rattle.std.specs.Prelude.{Ok, Err}
use Rattle.answers.specs.Checks.{first, Outcome, passed}
use Rattle.answers.proofs.Passed.{Passes, parts, below}
use Rattle.answers.proofs.Alike.{Alike, alike_append}
use Rattle.packing.specs.declared.PackKind.TheVariants.{Enclave}
use Rattle.packing.specs.Packing.{packing_checks, Packed}
use Rattle.checks.specs.Image.{Image}
use Rattle.scope_checks.specs.Links.{links}
use Rattle.enclave.specs.Passes.{enclave_checks}
use Rattle.enclave.specs.Answer.{unless, left_by, pack_image}
use Rattle.rising.specs.declared.marks.Marks.{Marks}
use Rattle.rising.specs.Rising.{rising_checks, station_checks, rising_answer, LevelsRise}
use Rattle.rising.specs.Reach.{others}
use Rattle.rising.specs.Marks.{marked}
use Rattle.rising.specs.Answer.{asked_checks, reach_count, reach_checks, reach_answer, scratch_after}
use Rattle.rising.proofs.Settled.{settled}
use Rattle.rising.proofs.AnswerLaws.{levels_rise}
use Rattle.rising_packs.proofs.Same.{SameTriggers, rising_alike, count_is, marks_are, asked_alike}

pub record Twins (m n : Image) : Type 0 where
  pub checks : first (enclave_checks n) ≡ first (enclave_checks m)
  pub links : first (enclave_checks m) ≡ passed → links n ≡ links m
  pub triggers : first (enclave_checks m) ≡ passed → SameTriggers m n

module _ (p q batch house : List ℕ) (h : Packed Enclave p batch house) (k : Packed Enclave q batch house) (t : Twins (pack_image p batch house) (pack_image q batch house)) where
  abbrev m : Image
  m = pack_image p batch house

  abbrev n : Image
  n = pack_image q batch house

  levels_alike : Passes (enclave_checks m) → Alike (rising_checks m) (rising_checks n)
  levels_alike e = rising_alike m n (t.triggers e.is) (settled m e.is)

  packed_alike : Alike (packing_checks Enclave p batch house) (packing_checks Enclave q batch house)
  packed_alike = record { is = k ∙ sym h }

  enclave_alike : Alike (enclave_checks m) (enclave_checks n)
  enclave_alike = record { is = t.checks }

  station_alike : Alike (station_checks p batch house) (station_checks q batch house)
  unfolding station_checks
  station_alike = alike_append packed_alike (λ _. alike_append enclave_alike levels_alike)

  pub rising_same : rising_answer q batch house ≡ rising_answer p batch house
  unfolding rising_answer
  rising_same = rw station_alike.is (go (first (station_checks p batch house)) refl)
    where
      go : (o : Outcome) → first (station_checks p batch house) ≡ o → unless o (0 ∷ links n ∷ []) ≡ unless o (0 ∷ links m ∷ [])
      go (Ok u) e = rw (t.links (levels_rise p batch house e).accepted) refl
      go (Err r) e = refl

  module _ (kind : Marks) (r : ℕ) (scratch : List ℕ) where
    all_alike : Alike (reach_checks kind p batch house r scratch) (reach_checks kind q batch house r scratch)
    unfolding reach_checks
    all_alike =
        alike_append station_alike
        (λ e. let a = (levels_rise p batch house e.is).accepted in asked_alike m n (t.triggers a) (settled m a) kind r scratch)

    -- where all pass, the image is accepted and has the reaction
    known : first (reach_checks kind p batch house r scratch) ≡ passed → LevelsRise m × (r < m.rows 5)
    unfolding reach_checks
    known e =
        let x = parts (station_checks p batch house) (asked_checks kind m r scratch) (record { is = e }) in
        (levels_rise p batch house x.0.is, below x.1)

    pub reach_same : reach_answer kind q batch house r scratch ≡ reach_answer kind p batch house r scratch
    unfolding reach_answer
    reach_same = rw all_alike.is (go (first (reach_checks kind p batch house r scratch)) refl)
      where
        go :
            (o : Outcome) → first (reach_checks kind p batch house r scratch) ≡ o
            → unless o (0 ∷ reach_count n r ∷ []) ≡ unless o (0 ∷ reach_count m r ∷ [])
        go (Ok u) e = let x = known e in rw (count_is m n (t.triggers x.0.accepted) (settled m x.0.accepted) r x.1) refl
        go (Err f) e = refl

    pub scratch_same : scratch_after kind q batch house r scratch ≡ scratch_after kind p batch house r scratch
    unfolding scratch_after
    scratch_same = rw all_alike.is (go (first (reach_checks kind p batch house r scratch)) refl)
      where
        go :
            (o : Outcome) → first (reach_checks kind p batch house r scratch) ≡ o
            → left_by o (marked kind (others n r) (n.rows 5) scratch) scratch ≡ left_by o (marked kind (others m r) (m.rows 5) scratch) scratch
        go (Ok u) e = let x = known e in marks_are m n (t.triggers x.0.accepted) (settled m x.0.accepted) kind r scratch x.1
        go (Err f) e = refl
