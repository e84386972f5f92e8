-- Bytes are UTF-8 exactly when they are the encodings of scalars of RFC 3629: the proofs of specs/Rfc3629.antt. Assumes nothing.
use Prim.Native.Nat.{ℕ, zero, suc, ◌+◌, ◌*◌, ◌/◌, ◌%◌, ◌<◌, ◌≤◌}
use mathlib.Core.Bool.{true, ◌&&◌, true≢false}
use mathlib.Core.Path.{◌≡◌, refl, ◌∙◌, ap, sym, subst}
use mathlib.Core.List.{List, [], ◌∷◌, ◌++◌}
use native.Mathlib.Nat.{zero-add}
use native.Mathlib.Omega.{arith}
use lib.Dec.{ltb, leb}
use lib.ListN.{length, get_or, drop, length-drop}
use borrow.Author.Tests.{ltb-true, ltb-false, leb-true, lt-ltb, le-ltb, le-leb}
use Rattle.std.specs.Prelude.{Option, Some, None, is_some}
use Rattle.identity.specs.declared.decode.Scalar.{Scalar}
use Rattle.identity.specs.Utf8.{allowed, encode, encode_all, follows, value_of_two, value_of_three, value_of_four, scalar, scalar_at}
use Rattle.identity.specs.Utf8.{before, decode, decode_after}
use Rattle.identity.specs.Rfc3629.{rfc_scalar, rfc_scalars, Encodes, AllowedIsRfc, AfterED, AroundSurrogates, Utf8IsEncoding, DecodeInvertsEncode}
use Rattle.identity.proofs.Tests.{cases, below_or_not, both, within-true}
use Rattle.identity.proofs.Scalar.{one_byte, by_two, by_three, by-four, checked-scalar, Follows, is-follow, no_byte}
use Rattle.identity.proofs.Scalar.{Form, one, two, three, four, form-at, width-at, decode-at, decode-none}

-- all that is asked of `allowed`
allowed-max : (v : ℕ) → allowed v ≡ true → v ≤ 0x10FFFF
unfolding allowed
allowed-max v e =
    cases (leb v 0xD7FF) (λ t. let l = leb-true v 0xD7FF t in omega arith)
    (λ f. (within-true 0xE000 0x10FFFF v (rw f at e)).1)

allowed-low : (v : ℕ) → v < 0x80 → allowed v ≡ true
unfolding allowed
allowed-low v h = rw (le-leb v 0xD7FF (omega arith))

pub allowed_is_rfc : AllowedIsRfc
unfolding allowed
allowed_is_rfc v = rw (le-leb 0x0000 v (omega arith))

-- the bytes of each form give its scalar
is_one : (a : ℕ) (t : List ℕ) → a < 0x80 → scalar_at (a ∷ t) 0 ≡ scalar a 1
is_one a t h = sym (one_byte (a ∷ t) 0 a h refl)

is-two : (a b : ℕ) (t : List ℕ) → 0xC2 ≤ a → a < 0xE0 → Follows b → allowed (value_of_two a b) ≡ true → scalar_at (a ∷ b ∷ t) 0 ≡ scalar (value_of_two a b) 2
is-two a b t l h f n =
    sym (by_two (a ∷ b ∷ t) 0 b _ l h refl (checked-scalar _ _ _ _ (is-follow b f) (omega arith) n))

is-three : (a b c : ℕ) (t : List ℕ) → 0xE0 ≤ a → a < 0xF0 → Follows b → Follows c → 0x800 ≤ value_of_three a b c → allowed (value_of_three a b c) ≡ true → scalar_at (a ∷ b ∷ c ∷ t) 0 ≡ scalar (value_of_three a b c) 3
is-three a b c t l h f g m n =
    sym (by_three (a ∷ b ∷ c ∷ t) 0 b c _ l h refl refl (checked-scalar (follows b && follows c) _ _ _ (rw (is-follow b f) (is-follow c g)) m n))

is-four : (a b c d : ℕ) (t : List ℕ) → 0xF0 ≤ a → a < 0xF5 → Follows b → Follows c → Follows d → 0x10000 ≤ value_of_four a b c d → allowed (value_of_four a b c d) ≡ true → scalar_at (a ∷ b ∷ c ∷ d ∷ t) 0 ≡ scalar (value_of_four a b c d) 4
is-four a b c d t l h f g k m n =
    sym (by-four (a ∷ b ∷ c ∷ d ∷ t) 0 b c d _ l h refl refl refl (checked-scalar (follows b && (follows c && follows d)) _ _ _ (rw (is-follow b f, is-follow c g) (is-follow d k)) m n))

following-byte : (v : ℕ) → Follows (0x80 + v % 64)
following-byte v = record { low = omega arith; high = omega arith }

low_bits : (x : ℕ) → (0x80 + x % 64) % 64 ≡ x % 64
low_bits x = omega arith

first-bits : (v : ℕ) → v ≤ 0x10FFFF → (0xF0 + v / 262144) % 8 ≡ v / 262144
first-bits v m = omega arith

high-two : (v : ℕ) → v / 4096 ≡ v / 262144 * 64 + v / 4096 % 64
high-two v = omega arith

low-two : (v : ℕ) → v ≡ v / 4096 * 4096 + v / 64 % 64 * 64 + v % 64
low-two v = omega arith

joined : (v q t x y z : ℕ) → q ≡ t * 64 + x → v ≡ q * 4096 + y * 64 + z → t * 262144 + x * 4096 + y * 64 + z ≡ v
joined v q t x y z e f = omega arith

-- the value of a scalar's four bytes, in the steps that omega takes
value-four : (v : ℕ) → v ≤ 0x10FFFF → value_of_four (0xF0 + v / 262144) (0x80 + v / 4096 % 64) (0x80 + v / 64 % 64) (0x80 + v % 64) ≡ v
value-four v m =
    rw (first-bits v m, low_bits (v / 4096), low_bits (v / 64), low_bits v)
    (joined v (v / 4096) (v / 262144) (v / 4096 % 64) (v / 64 % 64) (v % 64) (high-two v) (low-two v))

-- the bytes of a scalar, and then others, decode to it and theirs
decode-one : (v : ℕ) (t : List ℕ) → allowed v ≡ true → decode (encode v ++ t) ≡ before v (decode t)
unfolding encode
decode-one v t m =
    cases (ltb v 0x80)
    (λ t1. rw t1 (decode-at (v ∷ t) 0 (omega arith) (is_one v t (ltb-true v 0x80 t1))))
    (λ f1. rw f1
    (cases (ltb v 0x800)
    (λ t2.
    let l = ltb-false v 0x80 f1 in
    let h = ltb-true v 0x800 t2 in
    let e : value_of_two (0xC0 + v / 64) (0x80 + v % 64) ≡ v = omega arith in
    rw t2 (decode-at ((0xC0 + v / 64) ∷ (0x80 + v % 64) ∷ t) 0 (omega arith) (is-two _ _ t (omega arith) (omega arith) (following-byte v) (rw e m) ∙ ap (λ (n : ℕ). scalar n 2) e)))
    (λ f2. rw f2
    (cases (ltb v 0x10000)
    (λ t3.
    let l = ltb-false v 0x800 f2 in
    let h = ltb-true v 0x10000 t3 in
    let e : value_of_three (0xE0 + v / 4096) (0x80 + v / 64 % 64) (0x80 + v % 64) ≡ v = omega arith in
    rw t3 (decode-at ((0xE0 + v / 4096) ∷ (0x80 + v / 64 % 64) ∷ (0x80 + v % 64) ∷ t) 0 (omega arith) (is-three _ _ _ t (omega arith) (omega arith) (following-byte (v / 64)) (following-byte v) (rw e l) (rw e m) ∙ ap (λ (n : ℕ). scalar n 3) e)))
    (λ f3.
    let l = ltb-false v 0x10000 f3 in
    let e : value_of_four (0xF0 + v / 262144) (0x80 + v / 4096 % 64) (0x80 + v / 64 % 64) (0x80 + v % 64) ≡ v = value-four v (allowed-max v m) in
    let k = allowed-max v m in
    rw f3 (decode-at ((0xF0 + v / 262144) ∷ (0x80 + v / 4096 % 64) ∷ (0x80 + v / 64 % 64) ∷ (0x80 + v % 64) ∷ t) 0 (omega arith) (is-four _ _ _ _ t (omega arith) (omega arith) (following-byte (v / 4096)) (following-byte (v / 64)) (following-byte v) (rw e l) (rw e m) ∙ ap (λ (n : ℕ). scalar n 4) e)))))))

decode-encode : (vs : List ℕ) → rfc_scalars vs ≡ true → decode (encode_all vs) ≡ Some vs
unfolding encode_all decode_after
decode-encode [] e = refl
decode-encode (v ∷ vs) e =
    let h = both (rfc_scalar v) (rfc_scalars vs) e in
    decode-one v (encode_all vs) (allowed_is_rfc v ∙ h.0) ∙ ap (before v) (decode-encode vs h.1)

-- a scalar found at the front: the text starts with its bytes, and it is allowed
record Front (s : List ℕ) (v w : ℕ) : Type 0 where
  pub bytes : s ≡ encode v ++ drop w s
  pub is_allowed : allowed v ≡ true

front-one : (a : ℕ) (t : List ℕ) → a ≤ 0x7F → Front (a ∷ t) a 1
unfolding encode
front-one a t h = record { bytes = rw (lt-ltb a 0x80 (omega arith)); is_allowed = allowed-low a (omega arith) }

front-two : (a b : ℕ) (t : List ℕ) → 0xC2 ≤ a → a ≤ 0xDF → Follows b → allowed (value_of_two a b) ≡ true → Front (a ∷ b ∷ t) (value_of_two a b) 2
unfolding encode
front-two a b t l h f n =
    let v = value_of_two a b in
    let x : a ≡ 0xC0 + v / 64 = omega (arith, f.low, f.high) in
    let y : b ≡ 0x80 + v % 64 = omega (arith, f.low, f.high) in
    record {
      bytes = simp (le-ltb v 0x80 (omega arith), lt-ltb v 0x800 (omega arith)) (cc);
      is_allowed = n;
    }

front-three : (a b c : ℕ) (t : List ℕ) → 0xE0 ≤ a → a ≤ 0xEF → Follows b → Follows c → 0x800 ≤ value_of_three a b c → allowed (value_of_three a b c) ≡ true → Front (a ∷ b ∷ c ∷ t) (value_of_three a b c) 3
unfolding encode
front-three a b c t l h f g m n =
    let v = value_of_three a b c in
    let x : a ≡ 0xE0 + v / 4096 = omega (arith, f.low, f.high, g.low, g.high) in
    let y : b ≡ 0x80 + v / 64 % 64 = omega (arith, f.low, f.high, g.low, g.high) in
    let z : c ≡ 0x80 + v % 64 = omega (arith, f.low, f.high, g.low, g.high) in
    record {
      bytes = simp (le-ltb v 0x80 (omega arith), le-ltb v 0x800 m, lt-ltb v 0x10000 (omega arith)) (cc);
      is_allowed = n;
    }

-- the digits of a sum, base 64
module _ (t x y z : ℕ) (hx : x < 64) (hy : y < 64) (hz : z < 64) where
  digit-t : t ≡ (t * 262144 + x * 4096 + y * 64 + z) / 262144
  digit-t = omega arith

  digit-x : x ≡ (t * 262144 + x * 4096 + y * 64 + z) / 4096 % 64
  digit-x = omega arith

  digit-y : y ≡ (t * 262144 + x * 4096 + y * 64 + z) / 64 % 64
  digit-y = omega arith

  digit-z : z ≡ (t * 262144 + x * 4096 + y * 64 + z) % 64
  digit-z = omega arith

byte_of : (b : ℕ) → Follows b → b ≡ 0x80 + b % 64
byte_of b f = let l = f.low in let h = f.high in omega arith

front-four : (a b c d : ℕ) (t : List ℕ) → 0xF0 ≤ a → a ≤ 0xF4 → Follows b → Follows c → Follows d → 0x10000 ≤ value_of_four a b c d → allowed (value_of_four a b c d) ≡ true → Front (a ∷ b ∷ c ∷ d ∷ t) (value_of_four a b c d) 4
unfolding encode
front-four a b c d t l h f g k m n =
    let v = value_of_four a b c d in
    let hb : b % 64 < 64 = omega arith in
    let hc : c % 64 < 64 = omega arith in
    let hd : d % 64 < 64 = omega arith in
    let ea : a ≡ 0xF0 + a % 8 = omega arith in
    let w : a ≡ 0xF0 + v / 262144 = ea ∙ ap (0xF0 +◌) (digit-t (a % 8) (b % 64) (c % 64) (d % 64) hb hc hd) in
    let x : b ≡ 0x80 + v / 4096 % 64 = byte_of b f ∙ ap (0x80 +◌) (digit-x (a % 8) (b % 64) (c % 64) (d % 64) hb hc hd) in
    let y : c ≡ 0x80 + v / 64 % 64 = byte_of c g ∙ ap (0x80 +◌) (digit-y (a % 8) (b % 64) (c % 64) (d % 64) hb hc hd) in
    let z : d ≡ 0x80 + v % 64 = byte_of d k ∙ ap (0x80 +◌) (digit-z (a % 8) (b % 64) (c % 64) (d % 64) hb hc hd) in
    record {
      bytes = simp (le-ltb v 0x80 (omega (arith, m)), le-ltb v 0x800 (omega (arith, m)), le-ltb v 0x10000 m) (cc);
      is_allowed = n;
    }

front : (s : List ℕ) {x : Scalar} → Form (get_or s 0 0) (get_or s 1 0) (get_or s 2 0) (get_or s 3 0) (Some x) → 0 < length s → Front s x.value x.width
front [] f h = absurd (omega arith)
front (a ∷ t) (one l) h = front-one a t l
front (a ∷ []) (two l u f n) h = absurd (no_byte f)
front (a ∷ b ∷ t) (two l u f n) h = front-two a b t l u f n
front (a ∷ []) (three l u f g m n) h = absurd (no_byte f)
front (a ∷ b ∷ []) (three l u f g m n) h = absurd (no_byte g)
front (a ∷ b ∷ c ∷ t) (three l u f g m n) h = front-three a b c t l u f g m n
front (a ∷ []) (four l u f g k m n) h = absurd (no_byte f)
front (a ∷ b ∷ []) (four l u f g k m n) h = absurd (no_byte g)
front (a ∷ b ∷ c ∷ []) (four l u f g k m n) h = absurd (no_byte k)
front (a ∷ b ∷ c ∷ d ∷ t) (four l u f g k m n) h = front-four a b c d t l u f g k m n

-- after ED a byte over 9F would give a surrogate
surrogate : (a b c : ℕ) → a ≡ 0xED → Follows b → Follows c → allowed (value_of_three a b c) ≡ true → b ≤ 0x9F
unfolding allowed
surrogate a b c e f g n =
    let v = value_of_three a b c in
    let fh = f.high in
    let fl = f.low in
    below_or_not b 0xA0 (λ h. omega arith)
    (λ h. cases (leb v 0xD7FF)
    (λ t. let l = leb-true v 0xD7FF t in absurd (omega arith))
    (λ o. let l = (within-true 0xE000 0x10FFFF v (rw o at n)).0 in absurd (omega arith)))

-- the scalars after one that stands in front
data Rest (v : ℕ) (x : Option (List ℕ)) (vs : List ℕ) : Type 0 where
  rest : (us : List ℕ) → x ≡ Some us → vs ≡ v ∷ us → Rest v x vs

rest_of : (v : ℕ) (x : Option (List ℕ)) (vs : List ℕ) → before v x ≡ Some vs → Rest v x vs
rest_of v (Some us) vs e = rest us refl (cc)
rest_of v None vs e = cc

abbrev Shorter : List ℕ → Type 0
Shorter s = (u us : List ℕ) → length u < length s → decode u ≡ Some us → Encodes u us

joins : (a : ℕ) (t : List ℕ) {vs : List ℕ} (v w : ℕ) → Front (a ∷ t) v w → 1 ≤ w → Rest v (decode (drop w (a ∷ t))) vs → Shorter (a ∷ t) → Encodes (a ∷ t) vs
unfolding encode_all
joins a t v w f l (rest us e q) ih =
    let i = ih (drop w (a ∷ t)) us (rw length-drop (omega arith)) e in
    subst (Encodes (a ∷ t)) (sym q)
    (record { bytes = f.bytes ∙ ap (encode v ++◌) i.bytes; scalars = rw (sym (allowed_is_rfc v) ∙ f.is_allowed) i.scalars })

-- a text is the encodings of its scalars, if the shorter ones are
step : (a : ℕ) (t vs : List ℕ) (x : Option Scalar) → scalar_at (a ∷ t) 0 ≡ x → decode (a ∷ t) ≡ Some vs → Shorter (a ∷ t) → Encodes (a ∷ t) vs
step a t vs None e q ih =
    let n = decode-none (a ∷ t) 0 (omega arith) e in
    absurd (cc)
step a t vs (Some x) e q ih =
    let d : decode (a ∷ t) ≡ before x.value (decode (drop x.width (a ∷ t))) = rw zero-add at (decode-at (a ∷ t) 0 (omega arith) e) in
    let f = front (a ∷ t) (form-at (a ∷ t) 0 e) (omega arith) in
    joins a t x.value x.width f (width-at (a ∷ t) 0 e).0 (rest_of x.value (decode (drop x.width (a ∷ t))) vs (sym d ∙ q)) ih

by-list : (s vs : List ℕ) → decode s ≡ Some vs → Shorter s → Encodes s vs
unfolding decode_after encode_all
by-list [] vs e ih =
    let z : [] ≡ vs = cc in
    subst (Encodes []) z (record { bytes = refl; scalars = refl })
by-list (a ∷ t) vs e ih = step a t vs (scalar_at (a ∷ t) 0) refl e ih

encodes-by : (n : ℕ) (s vs : List ℕ) → length s ≤ n → decode s ≡ Some vs → Encodes s vs
encodes-by zero s vs h e = by-list s vs e (λ u us l q. absurd (omega arith))
encodes-by (suc n) s vs h e = by-list s vs e (λ u us l q. encodes-by n u us (omega arith) q)

encodes : (s vs : List ℕ) → decode s ≡ Some vs → Encodes s vs
encodes s vs e = encodes-by (length s) s vs (omega arith) e

decodes : (s vs : List ℕ) → Encodes s vs → decode s ≡ Some vs
decodes s vs e = rw e.bytes (decode-encode vs e.scalars)

pub decode-inverts-encode : DecodeInvertsEncode
decode-inverts-encode s vs = (encodes s vs, decodes s vs)

-- the scalars of a text that has some
found : (s : List ℕ) (x : Option (List ℕ)) → decode s ≡ x → is_some x ≡ true → (vs : List ℕ) × Encodes s vs
found s (Some vs) e t = (vs, encodes s vs e)
found s None e t = absurd (true≢false (sym t))

pub utf8-is-encoding : Utf8IsEncoding
utf8-is-encoding s = (found s (decode s) refl, λ p. ap is_some (decodes s p.0 p.1))

after-form : {a b c d : ℕ} {x : Scalar} → Form a b c d (Some x) → a ≡ 0xED → b ≤ 0x9F
after-form (one l) e = absurd (omega arith)
after-form (two l u f n) e = absurd (omega arith)
after-form {a} {b} {c} (three l u f g m n) e = surrogate a b c e f g n
after-form (four l u f g k m n) e = absurd (omega arith)

pub after-ed : AfterED
after-ed s i v w h e = after-form (form-at s i e) h

pub around-surrogates : AroundSurrogates
unfolding scalar_at decode_after allowed
around-surrogates = refl
