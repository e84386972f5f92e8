-- A record is as its layout has it where each of its bytes is at most its limit. Assumes nothing.
use Rattle.std.proofs.Common.{ℕ, zero, suc, ◌+◌, ◌*◌, ◌-◌, ◌/◌, ◌%◌, ◌<◌, ◌≤◌, Bool, true, false, not, ◌&&◌, ◌||◌, cond, ◌≡◌, refl, ◌∙◌, sym, ap, List, [], ltb, leb, eqb, get_or, arith}
use borrow.Author.Tests.{leb-true, ltb-true, ltb-false, le-leb, lt-ltb, lt-leb, eqb-true}
use Rattle.std.specs.List.{flat_map}
use Rattle.std.proofs.lemmas.List.FromFn.{get_or-map-range_with_len}
use Rattle.identity.proofs.Tests.{cases, both, failed, or-true}
use Rattle.schema.specs.Layout.{Layout, plain, layouts}
use Rattle.schema.specs.Bytes.{byte_of, bit_of}
use Rattle.packing.specs.Shape.{layout_of, used, governed_offset, governed_bytes, absent_at, unused_at, limit, limits, shape_of}
use Rattle.packing.specs.Limits.{at_most, within}
use Rattle.packing.specs.Clean.{zeros, head_clean, tail_clean, absent_clean, fields_clean, clean_by}
use Rattle.packing.proofs.Tables.{every, every-at}

-- of a byte, 255 limits none
at-most-byte : (m b : ℕ) → b ≤ 255 → leb b m ≡ at_most m b
at-most-byte m b h = cases (leb 255 m) (λ t. let g = leb-true 255 m t in rw (t, le-leb b m (omega arith)) refl) (λ f. rw f refl)

-- one byte more
pub within_one : (p ms : List ℕ) (o m b k : ℕ) → b ≤ 255 → m ≡ get_or ms k 0 → b ≡ get_or p (o + k) 0 → (within p o ms k && leb b m) ≡ within p o ms (k + 1)
unfolding within
within_one p ms o m b k h e f = let s : k + 1 ≡ suc k = omega arith in rw (at-most-byte m b h, e, f, s) refl

pub within_none : (p ms : List ℕ) (o : ℕ) → within p o ms 0 ≡ true
unfolding within
within_none p ms o = refl

pub ruleset within_laws = (within_none, within_one)

-- as many bytes as there are, each
module _ (p ms : List ℕ) (o : ℕ) where
  within-at : (k j : ℕ) → within p o ms k ≡ true → j < k → at_most (get_or ms j 0) (get_or p (o + j) 0) ≡ true
  unfolding within
  within-at zero j e h = absurd (omega arith)
  within-at (suc k) j e h =
      let b = both (within p o ms k) _ e in
      cases (ltb j k)
      (λ t. within-at k j b.0 (ltb-true j k t))
      (λ n. let l = ltb-false j k n in let q : j ≡ k = omega arith in rw q b.1)

  within-all : (k : ℕ) → ((j : ℕ) → j < k → at_most (get_or ms j 0) (get_or p (o + j) 0) ≡ true) → within p o ms k ≡ true
  unfolding within
  within-all zero f = refl
  within-all (suc k) f = rw (within-all k (λ j h. f j (omega arith)), f k (omega arith)) refl

module _ (p : List ℕ) (o : ℕ) where
  zeros-at : (k j : ℕ) → zeros p o k ≡ true → j < k → get_or p (o + j) 0 ≡ 0
  unfolding zeros
  zeros-at zero j e h = absurd (omega arith)
  zeros-at (suc k) j e h =
      let b = both (zeros p o k) _ e in
      cases (ltb j k)
      (λ t. zeros-at k j b.0 (ltb-true j k t))
      (λ n. let l = ltb-false j k n in let q : j ≡ k = omega arith in rw q (eqb-true _ 0 b.1))

  zeros-all : (k : ℕ) → ((j : ℕ) → j < k → get_or p (o + j) 0 ≡ 0) → zeros p o k ≡ true
  unfolding zeros
  zeros-all zero f = refl
  zeros-all (suc k) f = rw (zeros-all k (λ j h. f j (omega arith)), f k (omega arith)) refl

-- two tests that hold together are one
same_test : (a b : Bool) → (a ≡ true → b ≡ true) → (b ≡ true → a ≡ true) → a ≡ b
same_test true b f g = sym (f refl)
same_test false true f g = g refl
same_test false false f g = refl

-- a byte with a limit below 255, and one without
at-most-low : (m b : ℕ) → m < 255 → at_most m b ≡ leb b m
at-most-low m b h = rw (lt-leb 255 m h) refl

low-at-most : (m b : ℕ) → leb b m ≡ true → at_most m b ≡ true
low-at-most m b e = cases (leb 255 m) (λ t. rw t refl) (λ n. rw (n, e) refl)

-- what is asked of a layout: small kinds and bits, and fields inside the record
low : Layout → Bool
low l = leb l.bits 254 && leb l.kinds 254

inside : Layout → Bool
inside l = leb 4 (used l) && leb (used l) 64

-- the fields that bit k governs, if any, are from byte 4 on and among the fields
governed : ℕ → Layout → Bool
governed k l =
    let o = governed_offset k 4 l.fields in
    leb (o + governed_bytes k l.fields) (used l) && (leb 4 o || eqb (governed_bytes k l.fields) 0)

tidy : Layout → Bool
tidy l = (low l && inside l) && (governed 0 l && governed 1 l)

tidy-at : (t : ℕ) → tidy (layout_of t) ≡ true
unfolding layouts every tidy low inside governed
tidy-at t = every-at tidy layouts (plain []) t refl refl

-- the lowest two bits of a byte are those of its rest by 4
low-bit-0 : (x : ℕ) → x % 4 / 1 % 2 ≡ x / 1 % 2
low-bit-0 x = omega arith

low-bit-1 : (x : ℕ) → x % 4 / 2 % 2 ≡ x / 2 % 2
low-bit-1 x = omega arith

-- the limits of a layout's bytes, one after the other
limit-at : (l : Layout) (b j : ℕ) → j < 64 → get_or (flat_map (λ x. x) (limits l b)) j 0 ≡ limit l b j
unfolding limits
limit-at l b j h = get_or-map-range_with_len (limit l b) 0 64 j j 0 h (omega arith)

limit-from-4 : (l : Layout) (b j : ℕ) → 4 ≤ j → limit l b j ≡ cond (unused_at l b j) 0 255
limit-from-4 l b zero h = absurd (omega arith)
limit-from-4 l b (suc zero) h = absurd (omega arith)
limit-from-4 l b (suc (suc zero)) h = absurd (omega arith)
limit-from-4 l b (suc (suc (suc zero))) h = absurd (omega arith)
limit-from-4 l b (suc (suc (suc (suc j)))) h = refl

module _ (l : Layout) (good : tidy l ≡ true) where
  low-bits : l.bits ≤ 254
  unfolding tidy low
  low-bits = leb-true _ _ (both _ _ (both _ _ (both _ _ good).0).0).0

  low-kinds : l.kinds ≤ 254
  unfolding tidy low
  low-kinds = leb-true _ _ (both _ _ (both _ _ (both _ _ good).0).0).1

  from-4 : 4 ≤ used l
  unfolding tidy inside
  from-4 = leb-true _ _ (both _ _ (both _ _ (both _ _ good).0).1).0

  to-64 : used l ≤ 64
  unfolding tidy inside
  to-64 = leb-true _ _ (both _ _ (both _ _ (both _ _ good).0).1).1

  governed-0 : governed 0 l ≡ true
  unfolding tidy
  governed-0 = (both _ _ (both _ _ good).1).0

  governed-1 : governed 1 l ≡ true
  unfolding tidy
  governed-1 = (both _ _ (both _ _ good).1).1

pub used_most : (t : ℕ) → used (layout_of t) ≤ 64
used_most t = to-64 (layout_of t) (tidy-at t)

module _ (l : Layout) (good : tidy l ≡ true) (p : List ℕ) (n b : ℕ) (own : b ≡ byte_of p n 1 % 4) where
  same-bit-0 : bit_of b 0 ≡ bit_of (byte_of p n 1) 0
  same-bit-0 = rw own (ap (λ r. eqb r 1) (low-bit-0 (byte_of p n 1)))

  same-bit-1 : bit_of b 1 ≡ bit_of (byte_of p n 1) 1
  same-bit-1 = rw own (ap (λ r. eqb r 1) (low-bit-1 (byte_of p n 1)))

  -- where each byte before byte e, all fields' among them, is at most its limit
  module _ (e : ℕ) (few : e ≤ 64) (fields : used l ≤ e) (w : within p (n * 64) (flat_map (λ x. x) (limits l b)) e ≡ true) where
    head-there : 4 ≤ e
    head-there = let f = from-4 l good in let g = fields in omega arith

    most : (j m : ℕ) → j < e → limit l b j ≡ m → m ≤ 254 → leb (byte_of p n j) m ≡ true
    most j m h q s =
        let a = within-at p (flat_map (λ x. x) (limits l b)) (n * 64) e j w h in
        let f = few in
        let c : get_or (flat_map (λ x. x) (limits l b)) j 0 ≡ m = limit-at l b j (omega arith) ∙ q in
        sym (at-most-low m (byte_of p n j) (omega arith)) ∙ rw c at a

    no-byte : (j : ℕ) → j < e → limit l b j ≡ 0 → byte_of p n j ≡ 0
    no-byte j h q = let a = leb-true _ _ (most j 0 h q (omega arith)) in omega arith

    not-used : (j : ℕ) → 4 ≤ j → j < e → unused_at l b j ≡ true → byte_of p n j ≡ 0
    not-used j g h u = no-byte j h (limit-from-4 l b j g ∙ rw u refl)

    head-is : head_clean l p n ≡ true
    head-is =
        let f = head-there in
        rw (most 1 l.bits (omega arith) refl (low-bits l good), most 2 l.kinds (omega arith) refl (low-kinds l good), no-byte 3 (omega arith) refl) refl

    tail-is : e ≡ 64 → tail_clean l p n ≡ true
    tail-is whole =
        zeros-all p (n * 64 + used l) (64 - used l)
        (λ i h.
        let f = (from-4 l good) in
        let t = (to-64 l good) in
        let a : n * 64 + used l + i ≡ n * 64 + (used l + i) = omega arith in
        rw a (not-used (used l + i) (omega arith) (omega arith) (rw (le-leb (used l) (used l + i) (omega arith)) refl)))

    absent-is : (k : ℕ) → governed k l ≡ true → bit_of b k ≡ bit_of (byte_of p n 1) k → ((j : ℕ) → absent_at k l b j ≡ true → unused_at l b j ≡ true) → absent_clean k l p n ≡ true
    unfolding governed
    absent-is k g s u =
        cases (bit_of (byte_of p n 1) k)
        (λ t. rw t refl)
        (λ f.
        rw f
        (zeros-all p (n * 64 + governed_offset k 4 l.fields) (governed_bytes k l.fields)
        (λ i h.
        let o = governed_offset k 4 l.fields in
        let q = both _ _ g in
        let r : o + governed_bytes k l.fields ≤ used l = leb-true _ _ q.0 in
        let m = fields in
        let a : n * 64 + o + i ≡ n * 64 + (o + i) = omega arith in
        let four : 4 ≤ o = from-some k q.1 (omega arith) in
        rw a (not-used (o + i) (omega arith) (omega arith) (u (o + i) (rw (s ∙ f, le-leb o (o + i) (omega arith), lt-ltb (o + i) (o + governed_bytes k l.fields) (omega arith)) refl))))))
      where
        from-some : (k : ℕ) → (leb 4 (governed_offset k 4 l.fields) || eqb (governed_bytes k l.fields) 0) ≡ true → 0 < governed_bytes k l.fields → 4 ≤ governed_offset k 4 l.fields
        from-some k e h =
            cases (leb 4 (governed_offset k 4 l.fields))
            (λ t. leb-true _ _ t)
            (λ f. let z = eqb-true _ 0 (rw f at e) in absurd (omega arith))

    absent-is-0 : absent_clean 0 l p n ≡ true
    absent-is-0 = absent-is 0 (governed-0 l good) same-bit-0 (λ j a. rw (a, or-true (leb (used l) j)) refl)

    absent-is-1 : absent_clean 1 l p n ≡ true
    absent-is-1 = absent-is 1 (governed-1 l good) same-bit-1 (λ j a. rw (a, or-true (absent_at 0 l b j), or-true (leb (used l) j)) refl)

    fields-are : fields_clean l p n ≡ true
    fields-are = rw (head-is, absent-is-0, absent-is-1) refl

    clean-is : e ≡ 64 → clean_by l p n ≡ true
    clean-is whole = rw (head-is, tail-is whole, absent-is-0, absent-is-1) refl

  -- where the fields are clean, and the bytes past them that are before byte e are zero
  module _ (c : fields_clean l p n ≡ true) (e : ℕ) (few : e ≤ 64) (past : (j : ℕ) → leb (used l) j ≡ true → j < e → byte_of p n j ≡ 0) where
    head-part : head_clean l p n ≡ true
    head-part = (both (head_clean l p n) _ c).0

    absent-0 : absent_clean 0 l p n ≡ true
    absent-0 = (both (absent_clean 0 l p n) (absent_clean 1 l p n) (both (head_clean l p n) _ c).1).0

    absent-1 : absent_clean 1 l p n ≡ true
    absent-1 = (both (absent_clean 0 l p n) (absent_clean 1 l p n) (both (head_clean l p n) _ c).1).1

    in-absent : (k j : ℕ) → bit_of b k ≡ bit_of (byte_of p n 1) k → absent_clean k l p n ≡ true → absent_at k l b j ≡ true → byte_of p n j ≡ 0
    in-absent k j s a q =
        let q = both (not (bit_of b k)) _ q in
        let o = governed_offset k 4 l.fields in
        let r = both (leb o j) _ q.1 in
        let g = leb-true _ _ r.0 in
        let h = ltb-true _ _ r.1 in
        let f : bit_of (byte_of p n 1) k ≡ false = sym s ∙ is-false (bit_of b k) q.0 in
        let z : zeros p (n * 64 + o) (governed_bytes k l.fields) ≡ true = rw f at a in
        let m : n * 64 + o + (j - o) ≡ n * 64 + j = omega arith in
        rw m at (zeros-at p (n * 64 + o) (governed_bytes k l.fields) (j - o) z (omega arith))
      where
        is-false : (t : Bool) → not t ≡ true → t ≡ false
        is-false true e = failed e
        is-false false e = refl

    no-field : (j : ℕ) → j < e → unused_at l b j ≡ true → byte_of p n j ≡ 0
    no-field j h u =
        cases (leb (used l) j)
        (λ t. past j t h)
        (λ f.
        let v : (absent_at 0 l b j || absent_at 1 l b j) ≡ true = rw f at u in
        cases (absent_at 0 l b j)
        (λ t. in-absent 0 j same-bit-0 absent-0 t)
        (λ g. in-absent 1 j same-bit-1 absent-1 (rw g at v)))

    each : (j : ℕ) → j < e → at_most (limit l b j) (byte_of p n j) ≡ true
    each zero h = refl
    each (suc zero) h = low-at-most l.bits (byte_of p n 1) (both (leb (byte_of p n 1) l.bits) _ head-part).0
    each (suc (suc zero)) h = low-at-most l.kinds (byte_of p n 2) (both (leb (byte_of p n 2) l.kinds) _ (both (leb (byte_of p n 1) l.bits) _ head-part).1).0
    each (suc (suc (suc zero))) h = low-at-most 0 (byte_of p n 3) (rw (eqb-true (byte_of p n 3) 0 (both (leb (byte_of p n 2) l.kinds) _ (both (leb (byte_of p n 1) l.bits) _ head-part).1).1) refl)
    each (suc (suc (suc (suc j)))) h =
        cases (unused_at l b (suc (suc (suc (suc j)))))
        (λ t. rw t (low-at-most 0 _ (rw (no-field (suc (suc (suc (suc j)))) h t) refl)))
        (λ f. rw f refl)

    within-is : within p (n * 64) (flat_map (λ x. x) (limits l b)) e ≡ true
    within-is =
        let f = few in
        within-all p (flat_map (λ x. x) (limits l b)) (n * 64) e (λ j h. rw (limit-at l b j (omega arith)) (each j h))

  -- where the record is clean
  module _ (c : clean_by l p n ≡ true) where
    tail-part : tail_clean l p n ≡ true
    tail-part = (both (tail_clean l p n) _ (both (head_clean l p n) _ c).1).0

    fields-part : fields_clean l p n ≡ true
    fields-part = rw ((both (head_clean l p n) _ c).0, (both (tail_clean l p n) _ (both (head_clean l p n) _ c).1).1) refl

    in-tail : (j : ℕ) → leb (used l) j ≡ true → j < 64 → byte_of p n j ≡ 0
    in-tail j t h =
        let g = leb-true _ _ t in
        let e : n * 64 + used l + (j - used l) ≡ n * 64 + j = omega arith in
        rw e at (zeros-at p (n * 64 + used l) (64 - used l) (j - used l) tail-part (omega arith))

  one_test : within p (n * 64) (flat_map (λ x. x) (limits l b)) 64 ≡ clean_by l p n
  one_test = same_test _ _ (λ w. clean-is 64 (omega arith) (to-64 l good) w refl) (λ c. within-is (fields-part c) 64 (omega arith) (in-tail c))

  fields_test : within p (n * 64) (flat_map (λ x. x) (limits l b)) (used l) ≡ fields_clean l p n
  fields_test =
      let u = to-64 l good in
      same_test _ _
      (λ w. fields-are (used l) u (omega arith) w)
      (λ c. within-is c (used l) u (λ j t h. let g = leb-true (used l) j t in absurd (omega arith)))

-- the limits by bits 0 and 1 of a record's byte 1, of its table's shape
pub within-limits : (p : List ℕ) (n t b : ℕ) → b ≡ byte_of p n 1 % 4 → within p (n * 64) (flat_map (λ x. x) (limits (layout_of t) b)) 64 ≡ clean_by (layout_of t) p n
within-limits p n t b e = one_test (layout_of t) (tidy-at t) p n b e

-- and before the end of the fields, of any table's shape
pub fields-limits : (p : List ℕ) (n t b : ℕ) → b ≡ byte_of p n 1 % 4 → within p (n * 64) (flat_map (λ x. x) (limits (layout_of t) b)) (used (layout_of t)) ≡ fields_clean (layout_of t) p n
fields-limits p n t b e = fields_test (layout_of t) (tidy-at t) p n b e

pub limits-of : (t b : ℕ) → b < 4 → get_or (shape_of t).limits b [] ≡ limits (layout_of t) b
limits-of t b h = get_or-map-range_with_len (limits (layout_of t)) 0 4 b b [] h (omega arith)
