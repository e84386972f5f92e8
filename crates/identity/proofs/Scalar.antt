-- One scalar of a text, and the decoder on what is left. Assumes nothing.
use Prim.Native.Nat.{ℕ, zero, suc, ◌+◌, ◌*◌, ◌-◌, ◌^◌, ◌<◌, ◌≤◌}
use mathlib.Core.Bool.{Bool, true, ◌&&◌}
use mathlib.Core.Path.{◌≡◌, refl, ◌∙◌, sym, subst}
use mathlib.Core.List.{List, [], ◌∷◌}
use native.Mathlib.Nat.{add-zero, zero-add}
use native.Mathlib.Omega.{arith}
use lib.Dec.{leb, ltb}
use borrow.Author.Tests.{leb-true, le-leb, ltb-true, ltb-false}
use mir.Syntax.{w64}
use mir.Val.{Fits}
use mir.Facts.{Fits-le}
use lib.ListN.{length, get_or, drop, drop_of_length-le, get_or-eq_default}
use lib.Seq.{drop-cons, drop-drop, get_or-drop}
use Rattle.identity.specs.Within.{within}
use Rattle.std.specs.Prelude.{Option, Some, None}
use Rattle.identity.specs.declared.decode.Scalar.{Scalar}
use Rattle.identity.specs.Utf8.{allowed, follows, checked, value_of_two, value_of_three, value_of_four, two_bytes, three_bytes, four_bytes, scalar, scalar_of, scalar_at}
use Rattle.identity.specs.Utf8.{before, in_front, decode_after, decode}
use Rattle.identity.proofs.Tests.{cases, both, within-true, within_in, within-above}

-- the scalar at a place, by its first byte
module _ (s : List ℕ) (i : ℕ) where
  pub one_byte : (v : ℕ) → get_or s i 0 < 0x80 → v ≡ get_or s i 0 → scalar v 1 ≡ scalar_at s i
  unfolding scalar_at
  one_byte v h e = rw (e, within_in 0x00 0x7F (get_or s i 0) (omega arith) (omega arith))

  pub by_two : (b : ℕ) (x : Option Scalar) → 0xC2 ≤ get_or s i 0 → get_or s i 0 < 0xE0 → b ≡ get_or s (i + 1) 0 → x ≡ two_bytes (get_or s i 0) b → x ≡ scalar_at s i
  unfolding scalar_at
  by_two b x l h eb e =
      rw (
        within-above 0x00 0x7F (get_or s i 0) (omega arith),
        within_in 0xC2 0xDF (get_or s i 0) l (omega arith),
        ← eb,
      )
      e

  pub by_three : (b c : ℕ) (x : Option Scalar) → 0xE0 ≤ get_or s i 0 → get_or s i 0 < 0xF0 → b ≡ get_or s (i + 1) 0 → c ≡ get_or s (i + 2) 0 → x ≡ three_bytes (get_or s i 0) b c → x ≡ scalar_at s i
  unfolding scalar_at
  by_three b c x l h eb ec e =
      rw (
        within-above 0x00 0x7F (get_or s i 0) (omega arith),
        within-above 0xC2 0xDF (get_or s i 0) (omega arith),
        within_in 0xE0 0xEF (get_or s i 0) l (omega arith),
        ← eb,
        ← ec,
      )
      e

  pub by-four : (b c d : ℕ) (x : Option Scalar) → 0xF0 ≤ get_or s i 0 → get_or s i 0 < 0xF5 → b ≡ get_or s (i + 1) 0 → c ≡ get_or s (i + 2) 0 → d ≡ get_or s (i + 3) 0 → x ≡ four_bytes (get_or s i 0) b c d → x ≡ scalar_at s i
  unfolding scalar_at
  by-four b c d x l h eb ec ed e =
      rw (
        within-above 0x00 0x7F (get_or s i 0) (omega arith),
        within-above 0xC2 0xDF (get_or s i 0) (omega arith),
        within-above 0xE0 0xEF (get_or s i 0) (omega arith),
        within_in 0xF0 0xF4 (get_or s i 0) l (omega arith),
        ← eb,
        ← ec,
        ← ed,
      )
      e

pub ascii-scalar : (s : List ℕ) (i : ℕ) → get_or s i 0 < 0x80 → scalar_at s i ≡ scalar (get_or s i 0) 1
ascii-scalar s i h = sym (one_byte s i (get_or s i 0) h refl)

pub checked-scalar : (following : Bool) (low v w : ℕ) → following ≡ true → low ≤ v → allowed v ≡ true → scalar v w ≡ checked following low v w
checked-scalar following low v w f l n = rw (f, le-leb low v l, n)

pub record Follows (b : ℕ) : Type 0 where
  pub low : 0x80 ≤ b
  pub high : b ≤ 0xBF

pub follow : (b : ℕ) → follows b ≡ true → Follows b
follow b e = let h = within-true 0x80 0xBF b e in record { low = h.0; high = h.1 }

pub is-follow : (b : ℕ) → Follows b → follows b ≡ true
is-follow b f = within_in 0x80 0xBF b f.low f.high

-- what a scalar's bytes are, form by form
pub data Form (a b c d : ℕ) : Option Scalar → Type 0 where
  one : a ≤ 0x7F → Form a b c d (scalar a 1)
  two : 0xC2 ≤ a → a ≤ 0xDF → Follows b → allowed (value_of_two a b) ≡ true → Form a b c d (scalar (value_of_two a b) 2)
  three : 0xE0 ≤ a → a ≤ 0xEF → Follows b → Follows c → 0x800 ≤ value_of_three a b c → allowed (value_of_three a b c) ≡ true → Form a b c d (scalar (value_of_three a b c) 3)
  four : 0xF0 ≤ a → a ≤ 0xF4 → Follows b → Follows c → Follows d → 0x10000 ≤ value_of_four a b c d → allowed (value_of_four a b c d) ≡ true → Form a b c d (scalar (value_of_four a b c d) 4)
  nothing : Form a b c d None

checked-form : (a b c d : ℕ) (following : Bool) (low v w : ℕ) → (following ≡ true → low ≤ v → allowed v ≡ true → Form a b c d (scalar v w)) → Form a b c d (checked following low v w)
checked-form a b c d following low v w f =
    cases (following && (leb low v && allowed v))
    (λ t.
    let h = both following (leb low v && allowed v) t in
    let g = both (leb low v) (allowed v) h.1 in
    rw t (f h.0 (leb-true low v g.0) g.1))
    (λ e. rw e nothing)

form : (a b c d : ℕ) → Form a b c d (scalar_of a b c d)
form a b c d =
    cases (within 0x00 0x7F a) (λ t. rw t (one (within-true 0x00 0x7F a t).1))
    (λ f1. rw f1
    (cases (within 0xC2 0xDF a)
    (λ t.
    let h = within-true 0xC2 0xDF a t in
    rw t (checked-form a b c d _ _ _ _ (λ ok l m. two h.0 h.1 (follow b ok) m)))
    (λ f2. rw f2
    (cases (within 0xE0 0xEF a)
    (λ t.
    let h = within-true 0xE0 0xEF a t in
    rw t (checked-form a b c d _ _ _ _ (λ ok l m.
    let g = both (follows b) (follows c) ok in
    three h.0 h.1 (follow b g.0) (follow c g.1) l m)))
    (λ f3. rw f3
    (cases (within 0xF0 0xF4 a)
    (λ t.
    let h = within-true 0xF0 0xF4 a t in
    rw t (checked-form a b c d _ _ _ _ (λ ok l m.
    let g = both (follows b) (follows c && follows d) ok in
    let k = both (follows c) (follows d) g.1 in
    four h.0 h.1 (follow b g.0) (follow c k.0) (follow d k.1) l m)))
    (λ f4. rw f4 nothing)))))))

pub form-at : (s : List ℕ) (i : ℕ) {x : Option Scalar} → scalar_at s i ≡ x → Form (get_or s i 0) (get_or s (i + 1) 0) (get_or s (i + 2) 0) (get_or s (i + 3) 0) x
unfolding scalar_at
form-at s i e = subst (Form (get_or s i 0) (get_or s (i + 1) 0) (get_or s (i + 2) 0) (get_or s (i + 3) 0)) e (form _ _ _ _)

-- a scalar takes 1 to 4 bytes
width : {a b c d : ℕ} {x : Scalar} → Form a b c d (Some x) → (1 ≤ x.width) × (x.width ≤ 4)
width (one _) = (omega arith, omega arith)
width (two _ _ _ _) = (omega arith, omega arith)
width (three _ _ _ _ _ _) = (omega arith, omega arith)
width (four _ _ _ _ _ _ _) = (omega arith, omega arith)

pub width-at : (s : List ℕ) (i : ℕ) {x : Scalar} → scalar_at s i ≡ Some x → (1 ≤ x.width) × (x.width ≤ 4)
width-at s i e = width (form-at s i e)

-- a byte past the end is no following byte
pub no_byte : Follows 0 → ⊥
no_byte f = let h = f.low in omega arith

there : (s : List ℕ) (k : ℕ) → Follows (get_or s k 0) → k < length s
there s k f =
    cases (ltb k (length s)) (λ t. ltb-true k (length s) t)
    (λ n. absurd (no_byte (rw (get_or-eq_default s 0 (ltb-false k (length s) n)) at f)))

-- a scalar ends inside the text
ends : (s : List ℕ) (i : ℕ) {x : Scalar} → i < length s → Form (get_or s i 0) (get_or s (i + 1) 0) (get_or s (i + 2) 0) (get_or s (i + 3) 0) (Some x) → i + x.width ≤ length s
ends s i h (one _) = omega arith
ends s i h (two _ _ f _) = let k = there s (i + 1) f in omega arith
ends s i h (three _ _ f g _ _) = let k = there s (i + 2) g in omega arith
ends s i h (four _ _ f g e _ _) = let k = there s (i + 3) e in omega arith

pub ends_at : (s : List ℕ) (i : ℕ) {x : Scalar} → i < length s → scalar_at s i ≡ Some x → i + x.width ≤ length s
ends_at s i h e = ends s i h (form-at s i e)

-- the next place, after the scalar that x says stands at i
pub next_fits : (s : List ℕ) (i : ℕ) (x : Scalar) → Some x ≡ scalar_at s i → i < length s → length s * 1 < 2 ^ 63 → Fits w64 (i + x.width)
next_fits s i x e h l = let n = ends_at s i h (sym e) in Fits-le n (record { fits = omega arith })

-- bytes that are passed over are left off
after-drop : (s : List ℕ) (k : ℕ) → decode_after s k ≡ decode (drop k s)
unfolding decode_after
after-drop [] zero = refl
after-drop [] (suc k) = refl
after-drop (b ∷ s) zero = refl
after-drop (b ∷ s) (suc k) = after-drop s k

-- the scalar at i is the one that the rest from i starts with
scalar-drop : (s : List ℕ) (i : ℕ) → scalar_at (drop i s) 0 ≡ scalar_at s i
unfolding scalar_at
scalar-drop s i = simp (get_or-drop, add-zero, zero-add)

by_first : (s : List ℕ) (i : ℕ) → i < length s → decode (drop i s) ≡ in_front (scalar_at s i) (decode_after (drop (suc i) s))
unfolding decode_after
by_first s i h = rw (← scalar-drop s i, drop-cons s i 0)

pub decode-at : (s : List ℕ) (i : ℕ) {x : Scalar} → i < length s → scalar_at s i ≡ Some x → decode (drop i s) ≡ before x.value (decode (drop (i + x.width) s))
decode-at s i {x} h e =
    let l = width-at s i e in
    let k : suc i + (x.width - 1) ≡ i + x.width = omega (arith, l.0) in
    by_first s i h ∙ rw (e, after-drop (drop (suc i) s) (x.width - 1), drop-drop, k)

pub decode-none : (s : List ℕ) (i : ℕ) → i < length s → scalar_at s i ≡ None → decode (drop i s) ≡ None
decode-none s i h e = by_first s i h ∙ rw e

pub decode-end : (s : List ℕ) (i : ℕ) → length s ≤ i → decode (drop i s) ≡ Some []
unfolding decode_after
decode-end s i h = rw (drop_of_length-le s h)
