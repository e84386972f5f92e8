-- The steps of turning a record: number by number. Assumes nothing.
use Rattle.std.proofs.Common.{ℕ, ◌+◌, ◌-◌, ◌/◌, ◌%◌, ◌<◌, ◌≤◌, List, [], ◌∷◌, get_or, length, ◌≡◌, refl, sym, ◌∙◌, ap, arith}
use Rattle.identity.proofs.Tests.{below_or_not}
use Rattle.schema.specs.Layout.{Field, W, D, W-if, bytes, Layout}
use Rattle.schema.specs.Bytes.{byte_of}
use Rattle.packing.specs.Shape.{layout_of, end_from, used}
use Rattle.convert.specs.Turned.{other_end, other, turned_byte}
use Rattle.convert.specs.Steps.{longs_in, Turns, IsTurnedRecord}
use Rattle.convert.proofs.Ends.{some, within, after, ends, in_head, in_numbers, other_past}

-- the numbers from byte j on are left, and d says which of their words begin a D
pub record Left (l : Layout) (j d : ℕ) : Type 0 where
  pub fields : List Field
  pub bits : d ≡ longs_in fields
  pub upto : end_from j fields ≡ used l
  pub same : (i : ℕ) → j ≤ i → other l i ≡ other_end j fields i

-- the first of them has w bytes, and e is for those after it
pub record Next (l : Layout) (j w e : ℕ) : Type 0 where
  pub left : Left l (j + w) e
  pub inside : j + w ≤ used l
  pub turns : (i : ℕ) → i < w → other l (j + i) ≡ j + (w - 1 - i)

next_field : (l : Layout) (j : ℕ) (f : Field) (fs : List Field) → end_from (j + bytes f) fs ≡ used l → ((i : ℕ) → j ≤ i
    → other l i ≡ other_end j (f ∷ fs) i) → Next l j (bytes f) (longs_in fs)
next_field l j f fs u s =
    let g = ends (j + bytes f) fs in
    let z = some f in
    record {
      left = record { fields = fs; bits = refl; upto = u; same = λ i h. s i (omega arith) ∙ after j f fs i h };
      inside = omega arith;
      turns = λ i h.
          let e : j + (j + bytes f - 1 - (j + i)) ≡ j + (bytes f - 1 - i) = omega arith in
          s (j + i) (omega arith) ∙ (within j f fs (j + i) (omega arith) ∙ e);
    }

next_d : (l : Layout) (j d : ℕ) (fs : List Field) → d ≡ longs_in fs → end_from j fs ≡ used l → ((i : ℕ) → j ≤ i
    → other l i ≡ other_end j fs i) → j < used l → d % 2 ≡ 1 → Next l j 8 (d / 4)
next_d l j d [] b u s h o = absurd (omega arith)
next_d l j d (W ∷ fs) b u s h o = absurd (omega arith)
next_d l j d (W-if k ∷ fs) b u s h o = absurd (omega arith)
next_d l j d (D ∷ fs) b u s h o = let e : d / 4 ≡ longs_in fs = omega arith in rw e (next_field l j D fs u s)

next_w : (l : Layout) (j d : ℕ) (fs : List Field) → d ≡ longs_in fs → end_from j fs ≡ used l → ((i : ℕ) → j ≤ i
    → other l i ≡ other_end j fs i) → j < used l → (d % 2 ≡ 1 → ⊥) → Next l j 4 (d / 2)
next_w l j d [] b u s h o = absurd (omega arith)
next_w l j d (W ∷ fs) b u s h o = let e : d / 2 ≡ longs_in fs = omega arith in rw e (next_field l j W fs u s)
next_w l j d (W-if k ∷ fs) b u s h o = let e : d / 2 ≡ longs_in fs = omega arith in rw e (next_field l j (W-if k) fs u s)
next_w l j d (D ∷ fs) b u s h o = absurd (o (omega arith))

pub next_long : {l : Layout} {j d : ℕ} → Left l j d → j < used l → d % 2 ≡ 1 → Next l j 8 (d / 4)
next_long {l} {j} {d} f = next_d l j d f.fields f.bits f.upto f.same

pub next_word : {l : Layout} {j d : ℕ} → Left l j d → j < used l → (d % 2 ≡ 1 → ⊥) → Next l j 4 (d / 2)
next_word {l} {j} {d} f = next_w l j d f.fields f.bits f.upto f.same

-- in b record n of p is turned round below byte j, and from there on it is as it was
pub record Turning (p : List ℕ) (n : ℕ) (b : List ℕ) (j d : ℕ) : Type 0 where
  pub sized : length b ≡ 64
  pub done : (i : ℕ) → i < j → get_or b i 0 ≡ turned_byte p n i
  pub ahead : (i : ℕ) → j ≤ i → i < 64 → get_or b i 0 ≡ byte_of p n i
  pub left : Left (layout_of (byte_of p n 0)) j d

pub turning_start : (p : List ℕ) (n : ℕ) (b : List ℕ) (d : ℕ) → length b ≡ 64 → ((i : ℕ) → i < 64 → get_or b i 0 ≡ byte_of p n i)
    → d ≡ longs_in (layout_of (byte_of p n 0)).fields → Turning p n b 4 d
turning_start p n b d s copied e =
    let l = layout_of (byte_of p n 0) in
    record {
      sized = s;
      done = λ i h. copied i (omega arith) ∙ sym (ap (byte_of p n) (in_head l i h));
      ahead = λ i h g. copied i g;
      left = record { fields = l.fields; bits = e; upto = refl; same = λ i h. in_numbers l i h };
    }

pub turning_step : {p : List ℕ} {n : ℕ} {b c : List ℕ} {j d w e : ℕ} → Turning p n b j d → Next (layout_of (byte_of p n 0)) j w e
    → Turns w p n j b c → Turning p n c (j + w) e
turning_step {p} {n} {b} {c} {j} {d} {w} {e} t x r =
    record {
      sized = r.sized ∙ t.sized;
      done = λ i h.
          below_or_not i j
          (λ g. r.before i g ∙ t.done i g)
          (λ g.
          let z : j + (i - j) ≡ i = omega arith in
          let l : i - j < w = omega arith in
          rw z at (r.these (i - j) l ∙ sym (ap (byte_of p n) (x.turns (i - j) l))));
      ahead = λ i h g. r.after i h ∙ t.ahead i (omega arith) g;
      left = x.left;
    }

pub turning_end : {p : List ℕ} {n : ℕ} {b : List ℕ} {j d : ℕ} → Turning p n b j d → used (layout_of (byte_of p n 0)) ≤ j → IsTurnedRecord p n b
turning_end {p} {n} {b} {j} {d} t h =
    record {
      sized = t.sized;
      bytes = λ i g.
          below_or_not i j
          (λ m. t.done i m)
          (λ m. t.ahead i m g ∙ sym (ap (byte_of p n) (other_past (layout_of (byte_of p n 0)) i (omega arith))));
    }
