-- The answers by what the checks before them gave, and what a yes says. Assumes nothing.
use Prim.Native.Nat.{ℕ, ◌<◌, ◌≤◌}
use mathlib.Core.Bool.{Bool, true, false, true≢false}
use mathlib.Core.Logic.{◌↔◌}
use mathlib.Core.Path.{◌≡◌, refl, ◌∙◌, sym, ap}
use mathlib.Core.List.{List, [], ◌∷◌, ◌++◌}
use native.Mathlib.Omega.{arith}
use lib.Dec.{leb}
use lib.ListN.{length, get_or}
use borrow.Author.Tests.{le-leb, lt-leb}
use Rattle.std.specs.Prelude.{Ok, Err}
use Rattle.answers.specs.declared.Refusal.{Refusal}
use Rattle.answers.specs.Numbers.{numbers, bit}
use Rattle.answers.specs.declared.Refusal.TheVariants.{ScratchTooShort}
use Rattle.answers.specs.declared.field.Field.TheVariants as field
use Rattle.answers.specs.Checks.{Check, need, first, Outcome, passed}
use Rattle.answers.proofs.Laws.{first_past, first_stops}
use Rattle.answers.proofs.Passed.{Passes, parts, below}
use Rattle.answers.proofs.RefusalNumbers.{number-positive}
use Rattle.packing.specs.declared.PackKind.TheVariants.{Enclave}
use Rattle.packing.specs.Packing.{packing_checks}
use Rattle.checks.specs.Image.{Image}
use Rattle.checks.specs.Refs.{ref_to}
use Rattle.scope_checks.specs.Links.{links}
use Rattle.enclave.specs.Passes.{enclave_checks}
use Rattle.enclave.specs.Answer.{unless, left_by, image_answer, pack_image, enclave_answer}
use Rattle.enclave.proofs.Accepted.{no_refusal, accepted_packed, accepted_checks, accepted_links}
use Rattle.rising.specs.declared.marks.Marks.{Marks}
use Rattle.rising.specs.declared.marks.Marks.TheVariants.{Bytes, Bits}
use Rattle.rising.specs.Rising.{rising_checks, station_checks, rising_answer, LevelsRise}
use Rattle.rising.specs.Reach.{others}
use Rattle.rising.specs.Marks.{room, mark_of, marked}
use Rattle.rising.specs.Answer.{asked_checks, reach_count, image_reach, image_scratch, reach_checks, reach_answer, scratch_after}
use Rattle.rising.specs.Claims.{YesRises, MarksTell, SameReach, SameMarks}
use Rattle.rising.proofs.Closure.{others_exactly}
use Rattle.rising.proofs.MarkLaws.{mark_tells}

-- what is answered after checks that answered a refusal
pub after_refused : (xs ys : List Check) (ns ms : List ℕ) (r : Refusal) → unless (first xs) (0 ∷ ns) ≡ numbers r → unless (first (xs ++ ys)) ms ≡ numbers r
after_refused xs ys ns ms r e = go (first xs) refl e
  where
    go : (o : Outcome) → first xs ≡ o → unless o (0 ∷ ns) ≡ numbers r → unless (first (xs ++ ys)) ms ≡ numbers r
    go (Err q) w z = rw (first_stops xs ys w) z
    go (Ok u) w z = let h : 0 ≡ get_or (numbers r) 0 0 = ap (λ zs. get_or zs 0 0) z in absurd (omega (arith, number-positive r))

pub left_refused : (xs ys : List Check) (ns found old : List ℕ) (r : Refusal) → unless (first xs) (0 ∷ ns) ≡ numbers r → left_by (first (xs ++ ys)) found old ≡ old
left_refused xs ys ns found old r e = go (first xs) refl e
  where
    go : (o : Outcome) → first xs ≡ o → unless o (0 ∷ ns) ≡ numbers r → left_by (first (xs ++ ys)) found old ≡ old
    go (Err q) w z = rw (first_stops xs ys w) refl
    go (Ok u) w z = let h : 0 ≡ get_or (numbers r) 0 0 = ap (λ zs. get_or zs 0 0) z in absurd (omega (arith, number-positive r))

-- ---- what is asked of an image
module _ (k : Marks) (m : Image) (r : ℕ) (scratch : List ℕ) where
  abbrev pub reaction_there : List Check
  reaction_there = ref_to m.rows 5 0 field.Reaction 5 r ∷ []

  abbrev long_enough : List Check
  long_enough = need (leb (room k (m.rows 5)) (length scratch)) ScratchTooShort ∷ []

  pub no_reaction : {x : Refusal} → first reaction_there ≡ Err x → (image_reach k m r scratch ≡ numbers x) × (image_scratch k m r scratch ≡ scratch)
  no_reaction e = let s = first_stops reaction_there long_enough e in (rw s refl, rw s refl)

  module _ (e : first reaction_there ≡ passed) where
    past : first (asked_checks k m r scratch) ≡ first long_enough
    past = first_past reaction_there long_enough e

    pub there_is : r < m.rows 5
    there_is = below {cs = []} (record { is = e })

    pub too_short : length scratch < room k (m.rows 5) → (image_reach k m r scratch ≡ numbers ScratchTooShort) × (image_scratch k m r scratch ≡ scratch)
    unfolding first
    too_short l =
        let s : first (asked_checks k m r scratch) ≡ Err ScratchTooShort = past ∙ rw (lt-leb (room k (m.rows 5)) (length scratch) l) refl in
        (rw s refl, rw s refl)

    pub room_there :
        room k (m.rows 5) ≤ length scratch
        → (image_reach k m r scratch ≡ 0 ∷ reach_count m r ∷ []) × (image_scratch k m r scratch ≡ marked k (others m r) (m.rows 5) scratch)
    unfolding first
    room_there l =
        let s : first (asked_checks k m r scratch) ≡ passed = past ∙ rw (le-leb (room k (m.rows 5)) (length scratch) l) refl in
        (rw s refl, rw s refl)

-- ---- of a pack
module _ (p batch house : List ℕ) where
  abbrev m : Image
  m = pack_image p batch house

  abbrev packing : List Check
  packing = packing_checks Enclave p batch house

  -- the ordinary check refuses
  pub check_refused : (r : Refusal) → enclave_answer p batch house ≡ numbers r → rising_answer p batch house ≡ numbers r
  unfolding enclave_answer image_answer rising_answer station_checks
  check_refused r e = go (first packing) refl e
    where
      go : (o : Outcome) → first packing ≡ o → unless o (unless (first (enclave_checks m)) (0 ∷ links m ∷ [])) ≡ numbers r → unless (first (packing ++ (enclave_checks m ++ rising_checks m))) (0 ∷ links m ∷ []) ≡ numbers r
      go (Err q) w z = rw (first_stops packing _ w) z
      go (Ok u) w z = rw (first_past packing _ w) (after_refused (enclave_checks m) (rising_checks m) (links m ∷ []) (0 ∷ links m ∷ []) r z)

  -- it accepts with c links: the levels decide
  module _ (c : ℕ) (h : enclave_answer p batch house ≡ 0 ∷ c ∷ []) where
    station_left : first (station_checks p batch house) ≡ first (rising_checks m)
    unfolding station_checks
    station_left = first_past packing _ (accepted_packed p batch house c h) ∙ first_past (enclave_checks m) _ (accepted_checks p batch house c h)

    pub levels_refused : {r : Refusal} → first (rising_checks m) ≡ Err r → rising_answer p batch house ≡ numbers r
    unfolding rising_answer
    levels_refused e = rw (station_left, e) refl

    pub levels_passed : first (rising_checks m) ≡ passed → rising_answer p batch house ≡ 0 ∷ c ∷ []
    unfolding rising_answer
    levels_passed e = rw (station_left, e, accepted_links p batch house c h) refl

  -- a yes of the second check: each part passes, and the links are the first check's
  module _ (c : ℕ) (h : rising_answer p batch house ≡ 0 ∷ c ∷ []) where
    whole : (first (station_checks p batch house) ≡ passed) × (0 ∷ links m ∷ [] ≡ 0 ∷ c ∷ [])
    unfolding rising_answer
    whole = no_refusal (first (station_checks p batch house)) (0 ∷ links m ∷ []) (c ∷ []) h

    pub station_passed : first (station_checks p batch house) ≡ passed
    station_passed = whole.0

  module _ (h : first (station_checks p batch house) ≡ passed) where
    station_parts : (first packing ≡ passed) × LevelsRise m
    unfolding station_checks
    station_parts =
        let x = parts packing (enclave_checks m ++ rising_checks m) (record { is = h }) in
        let y = parts (enclave_checks m) (rising_checks m) x.1 in
        (x.0.is, record { accepted = y.0.is; rising = y.1.is })

    pub station_packed : first packing ≡ passed
    station_packed = station_parts.0

    pub levels_rise : LevelsRise m
    levels_rise = station_parts.1

    pub first_yes : enclave_answer p batch house ≡ 0 ∷ links m ∷ []
    unfolding enclave_answer image_answer
    first_yes = rw (station_parts.0, station_parts.1.accepted) refl

    -- so the question is left
    reach_left : (k : Marks) (r : ℕ) (scratch : List ℕ) → first (reach_checks k p batch house r scratch) ≡ first (asked_checks k m r scratch)
    unfolding reach_checks
    reach_left k r scratch = first_past (station_checks p batch house) _ h

    pub reach_is : (k : Marks) (r : ℕ) (scratch : List ℕ) → reach_answer k p batch house r scratch ≡ image_reach k m r scratch
    unfolding reach_answer
    reach_is k r scratch = rw (reach_left k r scratch) refl

    pub scratch_is : (k : Marks) (r : ℕ) (scratch : List ℕ) → scratch_after k p batch house r scratch ≡ image_scratch k m r scratch
    unfolding scratch_after
    scratch_is k r scratch = rw (reach_left k r scratch) refl

  -- the second check refuses
  module _ (k : Marks) (r : ℕ) (scratch : List ℕ) (q : Refusal) (h : rising_answer p batch house ≡ numbers q) where
    pub reach_refused : reach_answer k p batch house r scratch ≡ numbers q
    unfolding reach_answer reach_checks rising_answer
    reach_refused = after_refused (station_checks p batch house) (asked_checks k m r scratch) (links m ∷ []) (0 ∷ reach_count m r ∷ []) q h

    pub scratch_stays : scratch_after k p batch house r scratch ≡ scratch
    unfolding scratch_after reach_checks rising_answer
    scratch_stays = left_refused (station_checks p batch house) (asked_checks k m r scratch) (links m ∷ []) (marked k (others m r) (m.rows 5) scratch) scratch q h

pub yes_rises : YesRises
yes_rises p batch house c h =
    let s = station_passed p batch house c h in
    let e : links (pack_image p batch house) ≡ c = ap (λ zs. get_or zs 1 0) (whole p batch house c h).1 in
    (first_yes p batch house s ∙ rw e refl, levels_rise p batch house s)

-- ---- an answer to the question
module _ (k : Marks) (p batch house : List ℕ) (r : ℕ) (scratch : List ℕ) (n : ℕ) (h : reach_answer k p batch house r scratch ≡ 0 ∷ n ∷ []) where
  abbrev im : Image
  im = pack_image p batch house

  reach_passed : first (reach_checks k p batch house r scratch) ≡ passed
  unfolding reach_answer
  reach_passed = (no_refusal (first (reach_checks k p batch house r scratch)) (0 ∷ reach_count im r ∷ []) (n ∷ []) h).0

  asked_parts : (first (station_checks p batch house) ≡ passed) × Passes (asked_checks k im r scratch)
  unfolding reach_checks
  asked_parts = let x = parts (station_checks p batch house) (asked_checks k im r scratch) (record { is = reach_passed }) in (x.0.is, x.1)

  pub asked_there : r < im.rows 5
  asked_there = below asked_parts.1

  pub asked_rises : LevelsRise im
  asked_rises = levels_rise p batch house asked_parts.0

  pub after_is : scratch_after k p batch house r scratch ≡ marked k (others im r) (im.rows 5) scratch
  unfolding scratch_after
  after_is = rw reach_passed refl

  pub mark_after : (u : ℕ) → u < im.rows 5 → mark_of k (scratch_after k p batch house r scratch) u ≡ bit (others im r u)
  mark_after u l = ap (λ xs. mark_of k xs u) after_is ∙ mark_tells (others im r) (im.rows 5) scratch u l k

one_is : (b : Bool) → (bit b ≡ 1) ↔ (b ≡ true)
one_is true = ((λ e. refl), (λ e. refl))
one_is false = ((λ e. absurd (omega arith)), (λ e. absurd (true≢false (sym e))))

zero_is : (b : Bool) → (bit b ≡ 0) ↔ (b ≡ true → ⊥)
zero_is true = ((λ e. absurd (omega arith)), (λ n. absurd (n refl)))
zero_is false = ((λ e x. true≢false (sym x)), (λ n. refl))

pub marks_tell : MarksTell
marks_tell k p batch house r scratch n h = (
  asked_rises k p batch house r scratch n h,
  asked_there k p batch house r scratch n h,
  (λ u l.
      let x = mark_after k p batch house r scratch n h u l in
      let y = others_exactly (pack_image p batch house) (asked_rises k p batch house r scratch n h) r u (asked_there k p batch house r scratch n h) in
      ((λ e. y.0 ((one_is _).0 (sym x ∙ e))), (λ w. x ∙ (one_is _).1 (y.1 w)))),
  (λ u l.
      let x = mark_after k p batch house r scratch n h u l in
      let y = others_exactly (pack_image p batch house) (asked_rises k p batch house r scratch n h) r u (asked_there k p batch house r scratch n h) in
      ((λ e w. (zero_is _).0 (sym x ∙ e) (y.1 w)), (λ f. x ∙ (zero_is _).1 (λ t. f (y.0 t))))),
)

-- ---- whatever the marks
pub same_reach : SameReach
unfolding reach_answer reach_checks
same_reach p batch house r scratch small a b =
    rw (le-leb (room Bytes ((pack_image p batch house).rows 5)) (length scratch) a, le-leb (room Bits ((pack_image p batch house).rows 5)) (length small) b) refl

pub same_marks : SameMarks
same_marks p batch house r scratch small n a b u l =
    mark_after Bits p batch house r small n b u l ∙ sym (mark_after Bytes p batch house r scratch n a u l)
