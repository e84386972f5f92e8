-- Where each byte fits the three before it, whole scalars stand, and no controls unless any may. Assumes nothing.
use Prim.Native.Nat.{ℕ, zero, suc, ◌+◌, ◌-◌, ◌<◌, ◌≤◌}
use mathlib.Core.Bool.{Bool, true, false, not, ◌&&◌, ◌||◌, true≢false}
use mathlib.Core.Path.{◌≡◌, refl, ◌∙◌, sym}
use mathlib.Core.List.{List}
use native.Mathlib.Omega.{arith}
use lib.Dec.{leb, ltb, eqb}
use lib.ListN.{length, get_or}
use borrow.Author.Tests.{ltb-true, ltb-false, leb-false, le-leb, lt-leb, eq-eqb, ne_eqb, not-true}
use Rattle.identity.specs.Utf8.{allowed, follows, value_of_two, value_of_three, value_of_four, scalar, scalar_at}
use Rattle.identity.specs.Unicode.{control}
use Rattle.identity.specs.Scan.{ascii, printable, Run, utf8_from, id_from, rest_from}
use Rattle.identity.specs.Window.{due, low_after, high_after, second, starts, fits_at, quiet_at}
use Rattle.identity.proofs.Tests.{cases, below_or_not, failed, both, neither, or-true, within-true, within_in, within-above}
use Rattle.identity.proofs.Steps.{every-at}
use Rattle.identity.proofs.Unicode.{printable-no-control}
use Rattle.identity.proofs.Scalar.{ascii-scalar, by_two, by_three, by-four, Follows, follow, is-follow, checked-scalar, width-at}
use Rattle.identity.proofs.Utf8 as utf8
use Rattle.identity.proofs.Valid as valid

-- all that is asked of `allowed`, and of controls
allowed-below : (v : ℕ) → v < 0xD800 → allowed v ≡ true
unfolding allowed
allowed-below v h = rw (le-leb v 0xD7FF (omega arith))

allowed-above : (v : ℕ) → 0xE000 ≤ v → v ≤ 0x10FFFF → allowed v ≡ true
unfolding allowed
allowed-above v l h = rw (within_in 0xE000 0x10FFFF v l h) (or-true (leb v 0xD7FF))

no-control : (v : ℕ) → 0xA0 ≤ v → control v ≡ false
unfolding control
no-control v h = rw (within-above 0x0000 0x001F v (omega arith), within-above 0x007F 0x009F v (omega arith))

-- what is due at a place, by the bytes before it
abbrev due_at : List ℕ → ℕ → Bool
due_at s i = due (get_or s (i - 1) 0) (get_or s (i - 2) 0) (get_or s (i - 3) 0)

module _ (s : List ℕ) (i m : ℕ) where
  due-one : i - 1 ≡ m → 0xC0 ≤ get_or s m 0 → due_at s i ≡ true
  due-one e h = rw (e, le-leb 0xC0 (get_or s m 0) h)

  due-two : i - 2 ≡ m → 0xE0 ≤ get_or s m 0 → due_at s i ≡ true
  due-two e h = rw (e, le-leb 0xE0 (get_or s m 0) h) (or-true (leb 0xC0 (get_or s (i - 1) 0)))

  due-three : i - 3 ≡ m → 0xF0 ≤ get_or s m 0 → due_at s i ≡ true
  due-three e h = rw (e, le-leb 0xF0 (get_or s m 0) h, or-true (leb 0xE0 (get_or s (i - 2) 0))) (or-true (leb 0xC0 (get_or s (i - 1) 0)))

record Quiet (s : List ℕ) (i : ℕ) : Type 0 where
  pub one : get_or s (i - 1) 0 < 0xC0
  pub two : get_or s (i - 2) 0 < 0xE0
  pub three : get_or s (i - 3) 0 < 0xF0

quiet_is : (s : List ℕ) (i : ℕ) → quiet_at s i ≡ true → Quiet s i
quiet_is s i e =
    let a = neither (leb 0xC0 (get_or s (i - 1) 0)) _ (not-true _ e) in
    let b = neither (leb 0xE0 (get_or s (i - 2) 0)) _ a.1 in
    record { one = leb-false 0xC0 _ a.0; two = leb-false 0xE0 _ b.0; three = leb-false 0xF0 _ b.1 }

quiet_by : (s : List ℕ) (i p q r : ℕ) → i - 1 ≡ p → i - 2 ≡ q → i - 3 ≡ r → get_or s p 0 < 0xC0 → get_or s q 0 < 0xE0 → get_or s r 0 < 0xF0 → quiet_at s i ≡ true
quiet_by s i p q r e f g a b c = rw (e, f, g, lt-leb 0xC0 (get_or s p 0) a, lt-leb 0xE0 (get_or s q 0) b, lt-leb 0xF0 (get_or s r 0) c)

-- a choice by d, one side of it
chosen : (d x y : Bool) → (d && x) || (not d && y) ≡ true → d ≡ true → x ≡ true
chosen true true y e f = refl
chosen true false y e f = e
chosen false x y e f = absurd (true≢false (sym f))

other : (d x y : Bool) → (d && x) || (not d && y) ≡ true → d ≡ false → y ≡ true
other true x y e f = absurd (true≢false f)
other false x y e f = e

-- a following byte, by the one before it
record Second (any : Bool) (b p : ℕ) : Type 0 where
  pub follows : Follows b
  pub c2 : any ≡ false → p ≡ 0xC2 → 0xA0 ≤ b
  pub e0 : p ≡ 0xE0 → 0xA0 ≤ b
  pub f0 : p ≡ 0xF0 → 0x90 ≤ b
  pub ed : p ≡ 0xED → b < 0xA0
  pub f4 : p ≡ 0xF4 → b < 0x90

not_low : (a low p b : ℕ) → low_after a low p b ≡ false → p ≡ a → low ≤ b
not_low a low p b e f = ltb-false b low (rw (eq-eqb p a f) at e)

not_high : (a high p b : ℕ) → high_after a high p b ≡ false → p ≡ a → b < high
not_high a high p b e f = leb-false high b (rw (eq-eqb p a f) at e)

-- a test that is left out where any may stand
unless-any : (any x : Bool) → any || not x ≡ true → any ≡ false → x ≡ false
unless-any true x e n = absurd (true≢false n)
unless-any false x e n = not-true x e

second_is : (any : Bool) (b p : ℕ) → second any b p ≡ true → Second any b p
second_is any b p e =
    let x = both (follows b) _ e in
    let y = both (any || not (low_after 0xC2 0xA0 p b)) _ x.1 in
    let z = both (not (low_after 0xE0 0xA0 p b) && not (low_after 0xF0 0x90 p b)) _ y.1 in
    let low = both (not (low_after 0xE0 0xA0 p b)) _ z.0 in
    let high = both (not (high_after 0xED 0xA0 p b)) _ z.1 in
    record {
      follows = follow b x.0;
      c2 = λ n. not_low 0xC2 0xA0 p b (unless-any any (low_after 0xC2 0xA0 p b) y.0 n);
      e0 = not_low 0xE0 0xA0 p b (not-true _ low.0);
      f0 = not_low 0xF0 0x90 p b (not-true _ low.1);
      ed = not_high 0xED 0xA0 p b (not-true _ high.0);
      f4 = not_high 0xF4 0x90 p b (not-true _ high.1);
    }

-- the scalar at i, before e
record Over (any : Bool) (s : List ℕ) (i e : ℕ) : Type 0 where
  pub value : ℕ
  pub wide : ℕ
  pub is : scalar_at s i ≡ scalar value wide
  pub inside : i + wide ≤ e
  pub quiet : quiet_at s (i + wide) ≡ true
  pub free : any ≡ false → control value ≡ false

-- where no byte is due at i nor at e, and each from i to e fits
module _ (any : Bool) (s : List ℕ) (i e : ℕ) (l : 3 ≤ i) (h : i < e) (fit : (j : ℕ) → i ≤ j → j < e → fits_at any s j ≡ true) (q : quiet_at s i ≡ true) (z : quiet_at s e ≡ true) where
  abbrev a : ℕ
  a = get_or s i 0

  abbrev b : ℕ
  b = get_or s (i + 1) 0

  abbrev c : ℕ
  c = get_or s (i + 2) 0

  abbrev d : ℕ
  d = get_or s (i + 3) 0

  -- a byte that is due stands before e
  before-end : (j : ℕ) → j ≤ e → due_at s j ≡ true → j < e
  before-end j m d =
      below_or_not j e (λ t. t)
      (λ t. let k : e ≡ j = omega arith in failed (rw d at (rw k at z)))

  next : (j m : ℕ) → j - 1 ≡ m → i ≤ j → j ≤ e → due_at s j ≡ true → (j < e) × Second any (get_or s j 0) (get_or s m 0)
  next j m n u t d =
      let k = before-end j t d in
      (k, rw n at (second_is any (get_or s j 0) (get_or s (j - 1) 0) (chosen (due_at s j) _ _ (fit j u k) d)))

  by_one : ascii any a ≡ true → Over any s i e
  by_one t =
      let p = both (ltb a 0x80) (any || printable a) t in
      let x = ltb-true a 0x80 p.0 in
      let u = quiet_is s i q in
      let u1 = u.one in
      let u2 = u.two in
      record {
        value = a;
        wide = 1;
        is = ascii-scalar s i x;
        inside = omega arith;
        quiet = quiet_by s (i + 1) i (i - 1) (i - 2) (omega arith) (omega arith) (omega arith) (omega arith) (omega arith) (omega arith);
        free = λ n. printable-no-control a (rw n at p.1);
      }

  -- the byte after the first one
  after_first : 0xC2 ≤ a → (i + 1 < e) × Second any b a
  after_first x = next (i + 1) i (omega arith) (omega arith) (omega arith) (due-one s (i + 1) i (omega arith) (omega arith))

  -- the one after that
  after-second : 0xE0 ≤ a → (i + 2 < e) × Follows c
  after-second x =
      let n = (after_first (omega arith)).0 in
      let m = next (i + 2) (i + 1) (omega arith) (omega arith) (omega arith) (due-two s (i + 2) i (omega arith) x) in
      (m.0, m.1.follows)

  by-two-bytes : 0xC2 ≤ a → a ≤ 0xDF → Over any s i e
  by-two-bytes x y =
      let n = after_first x in
      let k = n.0 in
      let g = n.1 in
      let f = g.follows in
      let fl = f.low in
      let fh = f.high in
      let low : any ≡ false → control (value_of_two a b) ≡ false = λ r. no-control (value_of_two a b) (below_or_not 0xC2 a (λ t. omega arith) (λ t. let m = g.c2 r (omega arith) in omega arith)) in
      let u = (quiet_is s i q).one in
      record {
        value = value_of_two a b;
        wide = 2;
        is = sym (by_two s i b _ x (omega arith) refl (checked-scalar _ _ _ _ (is-follow b f) (omega arith) (allowed-below (value_of_two a b) (omega arith))));
        inside = omega arith;
        quiet = quiet_by s (i + 2) (i + 1) i (i - 1) (omega arith) (omega arith) (omega arith) (omega arith) (omega arith) (omega arith);
        free = low;
      }

  by-three-bytes : 0xE0 ≤ a → a ≤ 0xEF → Over any s i e
  by-three-bytes x y =
      let g = (after_first (omega arith)).1 in
      let f = g.follows in
      let fl = f.low in
      let fh = f.high in
      let m = after-second x in
      let k = m.0 in
      let mh = m.1.high in
      let low : 0x800 ≤ value_of_three a b c = below_or_not 0xE0 a (λ t. omega arith) (λ t. let l = g.e0 (omega arith) in omega arith) in
      let no_surrogate : allowed (value_of_three a b c) ≡ true =
      below_or_not a 0xED (λ t. allowed-below (value_of_three a b c) (omega arith))
      (λ t. below_or_not 0xED a (λ u. allowed-above (value_of_three a b c) (omega arith) (omega arith))
      (λ u. let l = g.ed (omega arith) in allowed-below (value_of_three a b c) (omega arith)))
      in
      record {
        value = value_of_three a b c;
        wide = 3;
        is = sym (by_three s i b c _ x (omega arith) refl refl (checked-scalar (follows b && follows c) _ _ _ (rw (is-follow b f) (is-follow c m.1)) low no_surrogate));
        inside = omega arith;
        quiet = quiet_by s (i + 3) (i + 2) (i + 1) i (omega arith) (omega arith) (omega arith) (omega arith) (omega arith) (omega arith);
        free = λ _. no-control (value_of_three a b c) (omega arith);
      }

  by-four-bytes : 0xF0 ≤ a → a ≤ 0xF4 → Over any s i e
  by-four-bytes x y =
      let g = (after_first (omega arith)).1 in
      let f = g.follows in
      let fl = f.low in
      let fh = f.high in
      let m = after-second (omega arith) in
      let k = m.0 in
      let mh = m.1.high in
      let o = next (i + 3) (i + 2) (omega arith) (omega arith) (omega arith) (due-three s (i + 3) i (omega arith) x) in
      let n = o.0 in
      let z = o.1.follows in
      let zh = z.high in
      let low : 0x10000 ≤ value_of_four a b c d = below_or_not 0xF0 a (λ t. omega arith) (λ t. let l = g.f0 (omega arith) in omega arith) in
      let high : value_of_four a b c d ≤ 0x10FFFF = below_or_not a 0xF4 (λ t. omega arith) (λ t. let l = g.f4 (omega arith) in omega arith) in
      record {
        value = value_of_four a b c d;
        wide = 4;
        is = sym (by-four s i b c d _ x (omega arith) refl refl refl (checked-scalar (follows b && (follows c && follows d)) _ _ _ (rw (is-follow b f, is-follow c m.1) (is-follow d z)) low (allowed-above (value_of_four a b c d) (omega arith) high)));
        inside = omega arith;
        quiet = quiet_by s (i + 4) (i + 3) (i + 2) (i + 1) (omega arith) (omega arith) (omega arith) (omega arith) (omega arith) (omega arith);
        free = λ _. no-control (value_of_four a b c d) (omega arith);
      }

  over : Over any s i e
  over =
      let t = other (due_at s i) _ (starts any a) (fit i (omega arith) h) (not-true (due_at s i) q) in
      cases (ascii any a) by_one
      (λ n.
      let x = within-true 0xC2 0xF4 a (rw n at t) in
      let x0 = x.0 in
      let x1 = x.1 in
      below_or_not a 0xE0 (λ u. by-two-bytes x0 (omega arith))
      (λ u. below_or_not a 0xF0 (λ v. by-three-bytes u (omega arith)) (λ v. by-four-bytes v x1)))

-- what passes over such scalars passes over all of them
module _ (any : Bool) (s : List ℕ) (e : ℕ) (z : quiet_at s e ≡ true) (good : ℕ → Bool) (step : (j v w : ℕ) → 3 ≤ j → j + w ≤ e → scalar_at s j ≡ scalar v w → (any ≡ false → control v ≡ false) → good j ≡ good (j + w)) where
  climb : (n i : ℕ) → e - i ≤ n → 3 ≤ i → i ≤ e → ((j : ℕ) → i ≤ j → j < e → fits_at any s j ≡ true) → quiet_at s i ≡ true → good i ≡ good e
  climb zero i m l h fit q = let k : i ≡ e = omega arith in rw k
  climb (suc n) i m l h fit q =
      below_or_not i e
      (λ t.
      let o = over any s i e l t fit q z in
      let u = (width-at s i o.is).0 in
      let v = o.inside in
      step i o.value o.wide l v o.is o.free
      ∙ climb n (i + o.wide) (omega arith) (omega arith) v (λ j x y. fit j (omega arith) y) o.quiet)
      (λ t. let k : i ≡ e = omega arith in rw k)

-- over the w bytes from i, perhaps none: the rest from i is good exactly where the rest after them is
pub record Passed (good : ℕ → Bool) (end i w : ℕ) : Type 0 where
  pub inside : i + w ≤ end
  pub same : good i ≡ good (i + w)

module _ (any : Bool) (s : List ℕ) (i k w : ℕ) (l : 3 ≤ i) (run : Run (fits_at any s) i k (length s - 1)) (h : w ≤ k) (q : quiet_at s i ≡ true) (z : quiet_at s (i + w) ≡ true) where
  within : i + w ≤ length s - 1
  within = let r = run.inside in omega arith

  passed : (good : ℕ → Bool) → ((j v n : ℕ) → 3 ≤ j → j + n ≤ i + w → scalar_at s j ≡ scalar v n → (any ≡ false → control v ≡ false) → good j ≡ good (j + n)) → Passed good (length s) i w
  passed good step =
      record {
        inside = let r = within in omega arith;
        same = climb any s (i + w) z good step w i (omega arith) l (omega arith) (λ j x y. every-at (fits_at any s) i k j run.all x (omega arith)) q;
      }

  passed-utf8 : Passed (utf8_from s) (length s) i w
  passed-utf8 =
      passed (utf8_from s)
      (λ j v n t u e _. let r = within in let m = (width-at s j e).0 in utf8.over-scalar s j (omega arith) e)

  passed-id : any ≡ false → Passed (id_from s) (length s) i w
  passed-id none =
      passed (id_from s)
      (λ j v n t u e f.
      let r = within in
      let m = (width-at s j e).0 in
      let x : eqb j 0 ≡ false = ne_eqb j 0 (λ y. omega arith) in
      let y : eqb (j + n) (length s) ≡ false = ne_eqb (j + n) (length s) (λ y. omega arith) in
      valid.over-scalar s j (omega arith) e (rw (f none, x, y)))

pub passed_rest : (any : Bool) (s : List ℕ) (i k w : ℕ) → 3 ≤ i → Run (fits_at any s) i k (length s - 1) → w ≤ k → quiet_at s i ≡ true → quiet_at s (i + w) ≡ true → Passed (rest_from any s) (length s) i w
passed_rest true s i k w l run h q z = passed-utf8 true s i k w l run h q z
passed_rest false s i k w l run h q z = passed-id false s i k w l run h q z refl
