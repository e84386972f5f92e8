-- Packs that differ only in their bounds, none of which is smaller. Assumes nothing.
use Prim.Native.Nat.{ℕ, suc, ◌+◌}
use mathlib.Core.Path.{◌≡◌, refl, ◌∙◌, ap}
use mathlib.Core.List.{List, [], ◌∷◌, ◌++◌}
use Rattle.answers.specs.Numbers.{numbers}
use Rattle.answers.specs.Checks.{Check, first, passed}
use Rattle.answers.specs.Slots.{SlotRefusal}
use Rattle.answers.proofs.Laws.{first_past, first_stops}
use Rattle.answers.proofs.Looser.{looser-stays}
use Rattle.schema.specs.Bytes.{byte_of}
use Rattle.packing.specs.declared.PackKind.TheVariants.{Enclave}
use Rattle.packing.specs.Packing.{packing_checks, Packed}
use Rattle.packing.specs.Starts.{table_starts}
use Rattle.packing.proofs.Packed.{first_is, one_enclave}
use Rattle.packing.proofs.SameTables.{same_starts}
use Rattle.checks.specs.Image.{Image, image}
use Rattle.scope_checks.specs.Links.{links}
use Rattle.enclave.specs.Passes.{enclave_checks}
use Rattle.enclave.specs.Answer.{unless, pack_image}
use Rattle.larger_bounds.specs.Packs.{DifferInStorage, NoBoundSmaller, SlotAnswer}
use Rattle.larger_bounds.proofs.SamePacks.{same_tables, image-same}
use Rattle.larger_bounds.proofs.PacksLarger.{pack-looser, pack-links}
use Rattle.rising.specs.Rising.{rising_checks, station_checks, rising_answer}
use Rattle.rising.specs.declared.marks.Marks.{Marks}
use Rattle.rising.specs.Answer.{asked_checks, reach_count, reach_checks, reach_answer}
use Rattle.rising_packs.specs.Packs.{RisingAnswerStays, ReachAnswerStays}
use Rattle.rising_packs.proofs.Same.{SameTriggers}
use Rattle.rising_packs.proofs.Twins.{Twins, rising_same, reach_same, scratch_same}

-- a slot refusal is an answer that begins with 23
slot_numbers : (ns : List ℕ) (cs : List Check) → SlotRefusal (first cs) → SlotAnswer (unless (first cs) ns)
unfolding numbers
slot_numbers ns cs (t, i, s, b, e) = rw e refl

-- one of checks is one of these with others before them that pass, or after them
slot_past : (xs ys : List Check) → first xs ≡ passed → SlotRefusal (first ys) → SlotRefusal (first (xs ++ ys))
slot_past xs ys e (t, i, s, b, f) = (t, i, s, b, first_past xs ys e ∙ f)

slot_before : (xs ys : List Check) → SlotRefusal (first xs) → SlotRefusal (first (xs ++ ys))
slot_before xs ys (t, i, s, b, f) = (t, i, s, b, first_stops xs ys f)

module _ (p q batch house : List ℕ) (h : Packed Enclave p batch house) (d : DifferInStorage p q) where
  abbrev m : Image
  m = pack_image p batch house

  abbrev n : Image
  n = pack_image q batch house

  -- the one with the tables of the other
  abbrev placed : Image
  placed = image q batch house (table_starts p 1) 0

  single : (i : ℕ) → byte_of p (suc i) 0 ≡ 1 → ⊥
  single = one_enclave p batch house h

  there : n ≡ placed
  there = ap (λ x. image q batch house x 0) (same_starts p q (same_tables p q d) 1)

  -- what a trigger is read from
  rows_are : n.rows ≡ m.rows
  rows_are = ap (λ x. x.rows) there ∙ ap (λ x. x.rows) (image-same p q d batch house single)

  reactions_are : n.reactions ≡ m.reactions
  reactions_are = ap (λ x. x.reactions) there ∙ ap (λ x. x.reactions) (image-same p q d batch house single)

  ports_are : n.ports ≡ m.ports
  ports_are = ap (λ x. x.ports) there ∙ ap (λ x. x.ports) (image-same p q d batch house single)

  effects_are : n.indexes 10 ≡ m.indexes 10
  effects_are = ap (λ x. x.indexes 10) there ∙ ap (λ x. x.indexes 10) (image-same p q d batch house single)

  triggers_are : n.levels 8 ≡ m.levels 8
  triggers_are = ap (λ x. x.levels 8) there ∙ ap (λ x. x.levels 8) (image-same p q d batch house single)

  same_triggers : SameTriggers m n
  same_triggers =
      record {
        rows = ap (λ f. f 5) rows_are;
        level = λ r l. ap (λ f. (f r).level) reactions_are;
        effects = λ r l. ap (λ f. (f r).effects.len) reactions_are;
        port = λ r k l u.
            ap (λ f. n.indexes 10 ((f r).effects.start + k)) reactions_are ∙ ap (λ f. f ((m.reactions r).effects.start + k)) effects_are;
        triggers = λ i l. ap (λ f. (f i).triggers.len) ports_are;
        target = λ i j l u.
            ap (λ f. (n.levels 8 ((f i).triggers.start + j)).reaction.0) ports_are ∙ ap (λ f. (f ((m.ports i).triggers.start + j)).reaction.0) triggers_are;
      }

  twins : NoBoundSmaller p q → (SlotRefusal (first (enclave_checks m)) → ⊥) → Twins m n
  twins b o =
      let bounds = b 0 (first_is Enclave p batch house h) in
      record {
        checks = looser-stays (pack-looser p q batch house d single bounds.0 bounds.1) o;
        links = λ _. pack-links p q batch house d single;
        triggers = λ _. same_triggers;
      }

  -- a slot refusal of the check is one of the second check
  slot_station : SlotRefusal (first (enclave_checks m)) → SlotRefusal (first (station_checks p batch house))
  unfolding station_checks
  slot_station r =
      slot_past (packing_checks Enclave p batch house) (enclave_checks m ++ rising_checks m) h (slot_before (enclave_checks m) (rising_checks m) r)

  rising_slot : SlotRefusal (first (enclave_checks m)) → SlotAnswer (rising_answer p batch house)
  unfolding rising_answer
  rising_slot r = slot_numbers (0 ∷ links m ∷ []) (station_checks p batch house) (slot_station r)

  reach_slot : (k : Marks) (r : ℕ) (scratch : List ℕ) → SlotRefusal (first (enclave_checks m)) → SlotAnswer (reach_answer k p batch house r scratch)
  unfolding reach_answer reach_checks
  reach_slot k r scratch e =
      slot_numbers (0 ∷ reach_count m r ∷ []) (station_checks p batch house ++ asked_checks k m r scratch)
      (slot_before (station_checks p batch house) (asked_checks k m r scratch) (slot_station e))

pub rising_answer_stays : RisingAnswerStays
rising_answer_stays p q batch house h k d b o =
    rising_same p q batch house h k (twins p q batch house h d b (λ r. o (rising_slot p q batch house h d r)))

pub reach_answer_stays : ReachAnswerStays
reach_answer_stays p q batch house h k d b kind r scratch o =
    let t = twins p q batch house h d b (λ e. o (reach_slot p q batch house h d kind r scratch e)) in
    (reach_same p q batch house h k t kind r scratch, scratch_same p q batch house h k t kind r scratch)
