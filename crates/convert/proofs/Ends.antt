-- Where a byte goes: over any list of fields, and in a record. Assumes nothing.
use Rattle.std.proofs.Common.{ℕ, zero, suc, ◌+◌, ◌-◌, ◌<◌, ◌≤◌, List, [], ◌∷◌, get_or, length, ◌≡◌, refl, ◌∙◌, arith}
use borrow.Author.Tests.{lt-ltb, le-ltb}
use Rattle.identity.proofs.Tests.{below_or_not}
use Rattle.schema.specs.Layout.{Field, W, D, W-if, bytes, Layout, offset_from}
use Rattle.packing.specs.Shape.{end_from, used}
use Rattle.convert.specs.Turned.{other_end, other}

pub some : (f : Field) → 0 < bytes f
some W = omega arith
some D = omega arith
some (W-if k) = omega arith

-- inside the first number, and after it
pub within : (o : ℕ) (f : Field) (fs : List Field) (j : ℕ) → j < o + bytes f → other_end o (f ∷ fs) j ≡ o + (o + bytes f - 1 - j)
unfolding other_end
within o f fs j h = rw (lt-ltb j (o + bytes f) h) refl

pub after : (o : ℕ) (f : Field) (fs : List Field) (j : ℕ) → o + bytes f ≤ j → other_end o (f ∷ fs) j ≡ other_end (o + bytes f) fs j
unfolding other_end
after o f fs j h = rw (le-ltb j (o + bytes f) h) refl

pub ends : (o : ℕ) (fs : List Field) → o ≤ end_from o fs
ends o [] = omega arith
ends o (f ∷ fs) = let h = ends (o + bytes f) fs in omega arith

-- a byte past the numbers stays
pub past : (o : ℕ) (fs : List Field) (j : ℕ) → end_from o fs ≤ j → other_end o fs j ≡ j
unfolding other_end
past o [] j h = refl
past o (f ∷ fs) j h =
    let e = ends (o + bytes f) fs in
    after o f fs j (omega arith) ∙ past (o + bytes f) fs j h

-- no byte of the numbers leaves them
stays : (o : ℕ) (fs : List Field) (j : ℕ) → o ≤ j → o ≤ other_end o fs j
unfolding other_end
stays o [] j h = h
stays o (f ∷ fs) j h =
    below_or_not j (o + bytes f)
    (λ l. rw (within o f fs j l) (omega arith))
    (λ l. let r = stays (o + bytes f) fs j l in rw (after o f fs j l) (omega arith))

ends_inside : (o : ℕ) (fs : List Field) (j m : ℕ) → o ≤ j → end_from o fs ≤ m → j < m → other_end o fs j < m
unfolding other_end
ends_inside o [] j m a e h = h
ends_inside o (f ∷ fs) j m a e h =
    let g = ends (o + bytes f) fs in
    below_or_not j (o + bytes f)
    (λ l. rw (within o f fs j l) (omega arith))
    (λ l. rw (after o f fs j l) (ends_inside (o + bytes f) fs j m l e h))

-- the other end of the other end
twice_end : (o : ℕ) (fs : List Field) (j : ℕ) → o ≤ j → other_end o fs (other_end o fs j) ≡ j
unfolding other_end
twice_end o [] j a = refl
twice_end o (f ∷ fs) j a =
    below_or_not j (o + bytes f)
    (λ l.
    let there : o + (o + bytes f - 1 - j) < o + bytes f = omega arith in
    let back : o + (o + bytes f - 1 - (o + (o + bytes f - 1 - j))) ≡ j = omega arith in
    rw (within o f fs j l) (within o f fs (o + (o + bytes f - 1 - j)) there ∙ back))
    (λ l.
    rw (after o f fs j l)
    (after o f fs (other_end (o + bytes f) fs j) (stays (o + bytes f) fs j l) ∙ twice_end (o + bytes f) fs j l))

-- where field k is, and where its bytes go
pub field_from : (o : ℕ) (fs : List Field) (k : ℕ) → o ≤ offset_from o fs k
field_from o fs zero = omega arith
field_from o [] (suc k) = omega arith
field_from o (f ∷ fs) (suc k) = let h = field_from (o + bytes f) fs k in omega arith

pub field_upto : (o : ℕ) (fs : List Field) (k : ℕ) → k < length fs → offset_from o fs k + bytes (get_or fs k W) ≤ end_from o fs
field_upto o [] k h = absurd (omega arith)
field_upto o (f ∷ fs) zero h = ends (o + bytes f) fs
field_upto o (f ∷ fs) (suc k) h = field_upto (o + bytes f) fs k (omega arith)

pub field_ends : (o : ℕ) (fs : List Field) (k i : ℕ) → k < length fs → i < bytes (get_or fs k W)
    → other_end o fs (offset_from o fs k + i) ≡ offset_from o fs k + (bytes (get_or fs k W) - 1 - i)
field_ends o [] k i h g = absurd (omega arith)
field_ends o (f ∷ fs) zero i h g =
    let e : o + (o + bytes f - 1 - (o + i)) ≡ o + (bytes f - 1 - i) = omega arith in
    within o f fs (o + i) (omega arith) ∙ e
field_ends o (f ∷ fs) (suc k) i h g =
    let l = field_from (o + bytes f) fs k in
    after o f fs (offset_from (o + bytes f) fs k + i) (omega arith) ∙ field_ends (o + bytes f) fs k i (omega arith) g

-- the same in a record, whose numbers start at byte 4
pub in_head : (l : Layout) (j : ℕ) → j < 4 → other l j ≡ j
in_head l j h = rw (lt-ltb j 4 h) refl

pub in_numbers : (l : Layout) (j : ℕ) → 4 ≤ j → other l j ≡ other_end 4 l.fields j
in_numbers l j h = rw (le-ltb j 4 h) refl

pub other_past : (l : Layout) (j : ℕ) → used l ≤ j → other l j ≡ j
other_past l j h =
    let e = ends 4 l.fields in
    in_numbers l j (omega arith) ∙ past 4 l.fields j h

pub other_inside : (l : Layout) (j m : ℕ) → used l ≤ m → j < m → other l j < m
other_inside l j m e h =
    below_or_not j 4
    (λ b. rw (in_head l j b) h)
    (λ b. rw (in_numbers l j b) (ends_inside 4 l.fields j m b e h))

pub other_twice : (l : Layout) (j : ℕ) → other l (other l j) ≡ j
other_twice l j =
    below_or_not j 4
    (λ b. rw (in_head l j b) (in_head l j b))
    (λ b. rw (in_numbers l j b) (in_numbers l (other_end 4 l.fields j) (stays 4 l.fields j b) ∙ twice_end 4 l.fields j b))
