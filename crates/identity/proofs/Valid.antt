-- A valid identity, scalar by scalar: the steps of `valid_id`. Assumes nothing.
use Prim.Native.Nat.{ℕ, ◌+◌, ◌-◌, ◌<◌, ◌≤◌}
use mathlib.Core.Bool.{Bool, true, false, not, ◌&&◌, ◌||◌, cond}
use mathlib.Core.Path.{◌≡◌, refl, ◌∙◌, ap, sym}
use Rattle.std.proofs.Common.{◌≢◌}
use mathlib.Core.List.{List, [], ◌∷◌}
use native.Mathlib.Omega.{arith}
use lib.Dec.{ltb, eqb}
use lib.ListN.{length, drop, get_or}
use borrow.Author.Tests.{eqb-true, eqb-false, ne_eqb}
use Rattle.std.specs.Prelude.{Option, Some, None}
use Rattle.identity.specs.declared.decode.Scalar.{Scalar}
use Rattle.identity.specs.Utf8.{before, decode, scalar, scalar_at}
use Rattle.identity.specs.Unicode.{control, white_space}
use Rattle.identity.specs.Identity.{no_control, last, valid_scalars, valid_text, valid_id}
use Rattle.identity.specs.Scan.{every, printable, ascii_at, refused, Stepped, id_from}
use Rattle.identity.proofs.Tests.{cases, both, and-false, within-true, within_in}
use Rattle.identity.proofs.Unicode.{printable-no-control, visible-no-space}
use Rattle.identity.proofs.Steps.{along, Kept}
use Rattle.identity.proofs.Scalar.{ascii-scalar, width-at, ends_at, decode-at, decode-none, decode-end}

abbrev none_left : List ℕ → Bool
none_left [] = true
none_left (v ∷ vs) = false

-- the scalars vs may end an identity; `first` where none stands before them
abbrev valid_rest : Bool → List ℕ → Bool
valid_rest first [] = not first
valid_rest first (v ∷ vs) = not (refused v (first || none_left vs)) && valid_rest false vs

abbrev valid_rest_text : Bool → Option (List ℕ) → Bool
valid_rest_text first (Some vs) = valid_rest first vs
valid_rest_text first None = false

abbrev none-left-text : Option (List ℕ) → Bool
none-left-text (Some vs) = none_left vs
none-left-text None = false

-- the four cases of the definition, over the truth values: c control, w white space
only : (c w : Bool) → (not c && true) && (not w && not w) ≡ not (c || (true && w)) && true
only true w = refl
only false true = refl
only false false = refl

final : (c w : Bool) → (not c && true) && not w ≡ not (c || (true && w)) && true
final true w = refl
final false true = refl
final false false = refl

middle : (c w n l r : Bool) → n && l ≡ r → (not c && n) && l ≡ not (c || (false && w)) && r
middle true w n l r e = refl
middle false w n l r e = e

first-of-many : (c w n l r : Bool) → n && l ≡ r → (not c && n) && (not w && l) ≡ not (c || (true && w)) && r
first-of-many true w n l r e = refl
first-of-many false true true l r e = refl
first-of-many false true false l r e = refl
first-of-many false false n l r e = e

valid-rest : (v : ℕ) (vs : List ℕ) → no_control (v ∷ vs) && not (white_space (last v vs)) ≡ valid_rest false (v ∷ vs)
valid-rest v [] = final (control v) (white_space v)
valid-rest v (u ∷ vs) = middle (control v) (white_space v) (no_control (u ∷ vs)) (not (white_space (last u vs))) (valid_rest false (u ∷ vs)) (valid-rest u vs)

valid-scalars : (vs : List ℕ) → valid_scalars vs ≡ valid_rest true vs
unfolding valid_scalars
valid-scalars [] = refl
valid-scalars (v ∷ []) = only (control v) (white_space v)
valid-scalars (v ∷ u ∷ vs) =
    first-of-many (control v) (white_space v) (no_control (u ∷ vs)) (not (white_space (last u vs))) (valid_rest false (u ∷ vs)) (valid-rest u vs)

valid-text : (x : Option (List ℕ)) → valid_text x ≡ valid_rest_text true x
valid-text (Some vs) = valid-scalars vs
valid-text None = refl

rest-before : (first : Bool) (v : ℕ) (x : Option (List ℕ)) → valid_rest_text first (before v x) ≡ not (refused v (first || none-left-text x)) && valid_rest_text false x
rest-before first v (Some vs) = refl
rest-before first v None = sym (and-false (not (refused v (first || false))))

-- no scalar is left exactly at the end
left-before : (v : ℕ) (x : Option (List ℕ)) → none-left-text (before v x) ≡ false
left-before v (Some vs) = refl
left-before v None = refl

left_by : (x : Option Scalar) (s : List ℕ) (i : ℕ) → scalar_at s i ≡ x → i < length s → none-left-text (decode (drop i s)) ≡ false
left_by (Some x) s i e h = ap none-left-text (decode-at s i h e) ∙ left-before x.value (decode (drop (i + x.width) s))
left_by None s i e h = ap none-left-text (decode-none s i h e)

left_at : (s : List ℕ) (n : ℕ) → n ≤ length s → none-left-text (decode (drop n s)) ≡ eqb n (length s)
left_at s n h =
    cases (eqb n (length s))
    (λ t. let e = eqb-true n (length s) t in ap none-left-text (decode-end s n (omega arith)) ∙ sym t)
    (λ f. left_by (scalar_at s n) s n refl (more (eqb-false n (length s) f)) ∙ sym f)
  where
    more : (n ≡ length s → ⊥) → n < length s
    more d = omega arith

-- `id_from` by the rest alone: a letter before it keeps it as it is
rest-is : (first : Bool) (x : Option (List ℕ)) → valid_text (cond first x (before 0x61 x)) ≡ valid_rest_text first x
unfolding control white_space
rest-is true x = valid-text x
rest-is false (Some vs) = valid-scalars (0x61 ∷ vs)
rest-is false None = refl

at-scalar : (s : List ℕ) (i : ℕ) {x : Scalar} → i < length s → scalar_at s i ≡ Some x → id_from s i ≡ not (refused x.value (eqb i 0 || eqb (i + x.width) (length s))) && id_from s (i + x.width)
at-scalar s i {x} h e =
    let z : eqb (i + x.width) 0 ≡ false = ne_eqb (i + x.width) 0 (λ q. omega (arith, (width-at s i e).0)) in
    rest-is (eqb i 0) (decode (drop i s))
    ∙ ap (valid_rest_text (eqb i 0)) (decode-at s i h e)
    ∙ rest-before (eqb i 0) x.value (decode (drop (i + x.width) s))
    ∙ rw (left_at s (i + x.width) (ends_at s i h e), z, rest-is false (decode (drop (i + x.width) s)))

pub over-scalar : (s : List ℕ) (i : ℕ) {x : Scalar} → i < length s → scalar_at s i ≡ Some x → refused x.value (eqb i 0 || eqb (i + x.width) (length s)) ≡ false → id_from s i ≡ id_from s (i + x.width)
over-scalar s i h e r = at-scalar s i h e ∙ rw r

-- a step over what was found at i, a scalar or none; r says whether no identity has that scalar there
module _ (s : List ℕ) (i : ℕ) (h : i < length s) where
  pub id-none : None ≡ scalar_at s i → id_from s i ≡ false
  id-none e = rest-is (eqb i 0) (decode (drop i s)) ∙ ap (valid_rest_text (eqb i 0)) (decode-none s i h (sym e))

  module _ {v w : ℕ} (r : Bool) (e : scalar v w ≡ scalar_at s i) (g : r ≡ refused v (eqb i 0 || eqb (i + w) (length s))) where
    pub id-refused : r ≡ true → id_from s i ≡ false
    id-refused t = at-scalar s i h (sym e) ∙ rw (sym g ∙ t)

    pub id-scalar : r ≡ false → Stepped (id_from s) (length s) i w
    id-scalar t =
        record {
          inside = ends_at s i h (sym e);
          forward = (width-at s i (sym e)).0;
          same = over-scalar s i h (sym e) (sym g ∙ t);
        }

pub id-end : (s : List ℕ) (i : ℕ) → Kept (valid_id s) (id_from s) (length s) i → length s ≤ i → not (eqb i 0) ≡ valid_id s
id-end s i p h =
    sym (p.same ∙ rest-is (eqb i 0) (decode (drop i s)) ∙ ap (valid_rest_text (eqb i 0)) (decode-end s i h))

-- a step over a printable byte, which is no blank where it is first or last
over-printable : (s : List ℕ) (j : ℕ) → j < length s → ascii_at false s j ≡ true → (eqb j 0 || eqb (j + 1) (length s) ≡ true → get_or s j 0 ≢ 0x20) → id_from s j ≡ id_from s (j + 1)
over-printable s j h q blank =
    let v = get_or s j 0 in
    let p = (both (ltb v 0x80) (printable v) q).1 in
    let r = within-true 0x20 0x7E v p in
    let c = printable-no-control v p in
    over-scalar s j h (ascii-scalar s j (omega arith))
    (cases (eqb j 0 || eqb (j + 1) (length s))
    (λ t.
    let n = blank t in
    rw (c, t, visible-no-space v (within_in 0x21 0x7E v (omega arith) (omega arith))))
    (λ f. rw (c, f)))

-- a text of printable ASCII alone, with no blank first or last
pub id_plain : (s : List ℕ) (a : Bool) → length s ≢ 0 → get_or s 0 0 ≢ 0x20 → get_or s (length s - 1) 0 ≢ 0x20 → a ≡ every (ascii_at false s) 0 (length s) → a ≡ true → valid_id s ≡ true
id_plain s a d first final e t =
    let rest : valid_id s ≡ id_from s (0 + length s) =
    along (ascii_at false s) (λ j. valid_id s ≡ id_from s j) 0 (length s)
    (λ j _ l q r. r ∙ over-printable s j (omega arith) q (edge j))
    (sym e ∙ t) refl
    in
    let f : eqb (0 + length s) 0 ≡ false = ne_eqb (0 + length s) 0 (λ z. omega arith) in
    sym (id-end s (0 + length s) (record { inside = omega arith; same = rest }) (omega arith)) ∙ rw f
  where
    edge : (j : ℕ) → eqb j 0 || eqb (j + 1) (length s) ≡ true → get_or s j 0 ≢ 0x20
    edge j w =
        cases (eqb j 0) (λ x. rw (eqb-true j 0 x) first)
        (λ x.
        let y = eqb-true (j + 1) (length s) (rw x at w) in
        let z : length s - 1 ≡ j = omega arith in
        rw z at final)
