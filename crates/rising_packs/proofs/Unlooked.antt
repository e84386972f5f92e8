-- Packs that differ only in what the check of a station does not look at. Assumes nothing.
use Prim.Native.Nat.{ℕ, ◌+◌}
use mathlib.Core.Path.{◌≡◌, refl, ap, ◌∙◌}
use mathlib.Core.List.{List}
use native.Mathlib.Omega.{arith}
use Rattle.answers.specs.Checks.{first, passed}
use Rattle.packing.specs.declared.PackKind.TheVariants.{Enclave}
use Rattle.packing.specs.Packing.{Packed}
use Rattle.packing.proofs.Packed.{first_is}
use Rattle.packing.proofs.TableRows.{rows_rise}
use Rattle.checks.specs.Image.{Image}
use Rattle.enclave.specs.Passes.{enclave_checks}
use Rattle.enclave.specs.Answer.{pack_image}
use Rattle.enclave.proofs.Accepted.{each}
use Rattle.accepted.proofs.Rows.{port_holds, reaction_holds}
use Rattle.unlooked.specs.Images.{SameRows}
use Rattle.unlooked.specs.Packs.{DifferUnlooked}
use Rattle.unlooked.proofs.Images.{checks_alike, links_alike}
use Rattle.unlooked.proofs.Packs.{images_same}
use Rattle.rising_packs.specs.Packs.{RisingAnswerSame, ReachAnswerSame}
use Rattle.rising_packs.proofs.Same.{SameTriggers}
use Rattle.rising_packs.proofs.Twins.{Twins, rising_same, reach_same, scratch_same}

-- of an accepted image effects and triggers lie in their tables
same_triggers : (m n : Image) → SameRows m n → first (enclave_checks m) ≡ passed → SameTriggers m n
same_triggers m n s a =
    let h = each m a in
    record {
      rows = ap (λ rows. rows 5) s.rows;
      level = λ r l. ap (λ row. row.level) (s.reactions r l);
      effects = λ r l. ap (λ row. row.effects.len) (s.reactions r l);
      port = λ r k l u.
          let x = (reaction_holds m r (h.reaction r l)).effects.inside in
          ap (λ row. n.indexes 10 (row.effects.start + k)) (s.reactions r l) ∙ s.indexes 10 ((m.reactions r).effects.start + k) refl (omega arith);
      triggers = λ q l. ap (λ row. row.triggers.len) (s.ports q l);
      target = λ q j l u.
          let x = (port_holds m q (h.port q l)).triggers.inside in
          ap (λ row. (n.levels 8 (row.triggers.start + j)).reaction.0) (s.ports q l) ∙ ap (λ entry. entry.reaction.0) (s.levels 8 ((m.ports q).triggers.start + j) refl (omega arith));
    }

twins : (m n : Image) → SameRows m n → Twins m n
twins m n s = record { checks = (checks_alike m n s).is; links = links_alike m n s; triggers = same_triggers m n s }

module _ (p q batch house : List ℕ) (h : Packed Enclave p batch house) (d : DifferUnlooked Enclave p q) where
  alike : Twins (pack_image p batch house) (pack_image q batch house)
  alike = twins _ _ (images_same p q d batch house (first_is Enclave p batch house h) (rows_rise p batch house h))

pub rising_answer_same : RisingAnswerSame
rising_answer_same p q batch house h k d = rising_same p q batch house h k (alike p q batch house h d)

pub reach_answer_same : ReachAnswerSame
reach_answer_same p q batch house h k d kind r scratch =
    let t = alike p q batch house h d in
    (reach_same p q batch house h k t kind r scratch, scratch_same p q batch house h k t kind r scratch)
