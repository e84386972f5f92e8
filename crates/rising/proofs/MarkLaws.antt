-- Marks: one that is made, none at all, and all of them as bytes. Assumes nothing.
use Prim.Native.Nat.{ℕ, zero, suc, ◌+◌, ◌-◌, ◌*◌, ◌/◌, ◌%◌, ◌^◌, ◌<◌, ◌≤◌, max}
use mathlib.Core.Bool.{Bool, true, false, not, ◌&&◌}
use mathlib.Core.Logic.{◌⊎◌, inl, inr, ⊎_elim}
use mathlib.Core.List.{List, ◌∷◌, ◌++◌, map}
use mathlib.Core.Path.{◌≡◌, refl, sym, ap, subst, ◌∙◌}
use Rattle.std.proofs.Common.{ap₂}
use native.Mathlib.Decide.{dec_le}
use native.Mathlib.Numerals.{one-add, add-one}
use native.Mathlib.Omega.{arith}
use lib.Dec.{ltb, eqb}
use lib.ListN.{length, get_or, set, drop, replicate, length-set, length-append, length-drop, length-replicate}
use borrow.Author.Tests.{eqb-true, eqb-false, lt-ltb, le-ltb}
use Rattle.identity.proofs.Tests.{failed}
use Rattle.std.proofs.lemmas.List.{get_or-set_same, get_or-set_other, get_or-replicate, get_or_append_left, get_or-append_right, get_or-drop, get_or_past, ext_get_or}
use Rattle.std.proofs.lemmas.List.FromFn.{length-map-range_with_len, get_or-map-range_with_len}
use Rattle.std.proofs.lemmas.Nat.{or_lt, pow_below, pow-add, mod-pow-add, div-mul-add, mod-mul-add}
use Rattle.std.proofs.lemmas.Nat.Bits.{bit_at_or, bit_at-pow_same, bit_at-pow_other, bit_at-zero, bit_at-lt, bit_at_cat_low, bit_at_cat_high}
use Rattle.std.specs.List.{range_with_len}
use Rattle.std.specs.Int.{bit_at}
use Rattle.std.specs.Prelude.{bit_or}
use Rattle.answers.specs.Numbers.{bit}
use Rattle.accepted.specs.Totals.{total}
use Rattle.rising.specs.declared.marks.Marks.{Marks}
use Rattle.rising.specs.declared.marks.Marks.TheVariants.{Bytes, Bits}
use Rattle.rising.specs.Marks.{room, byte_of_marks, marked, mark_of, set_mark}
use Rattle.rising.specs.Walk.{Has, cleared}

-- ---- numbers that are one, or not
pub same_or_not : (v t : ℕ) → (v ≡ t) ⊎ (v ≡ t → ⊥)
same_or_not v t = go (eqb v t) refl
  where
    go : (b : Bool) → eqb v t ≡ b → (v ≡ t) ⊎ (v ≡ t → ⊥)
    go true e = inl (eqb-true v t e)
    go false e = inr (eqb-false v t e)

-- ---- room for a mark
pub room_for : (k : Marks) (i n : ℕ) → i < n → room k (i + 1) ≤ room k n
room_for Bytes i n l = omega arith
room_for Bits i n l = omega arith

-- ---- item i is marked, no other mark changes, and no byte past the room of more items
pub record Sets (k : Marks) (i : ℕ) (xs ys : List ℕ) : Type 0 where
  pub long : length ys ≡ length xs
  pub here : mark_of k ys i ≡ 1
  pub others : (j : ℕ) → (j ≡ i → ⊥) → mark_of k ys j ≡ mark_of k xs j
  pub beyond : (n j : ℕ) → i < n → room k n ≤ j → get_or ys j 0 ≡ get_or xs j 0
  pub fits : (j : ℕ) → get_or xs j 0 < 256 → get_or ys j 0 < 256

-- a byte that is written, and the others
written : (xs : List ℕ) (i v : ℕ) → i < length xs → v < 256 → (j : ℕ) → get_or xs j 0 < 256 → get_or (set xs i v) j 0 < 256
written xs i v l f j h =
    ⊎_elim
    (λ e. subst (λ (x : ℕ). x < 256) (sym (ap (λ (x : ℕ). get_or (set xs i v) x 0) e ∙ get_or-set_same xs i v 0 l)) f)
    (λ n. subst (λ (x : ℕ). x < 256) (sym (get_or-set_other xs i j v 0 n)) h)
    (same_or_not j i)

or_same : (b k : ℕ) → bit_at (bit_or b (2 ^ k)) k ≡ 1
or_same b k =
    let e = bit_at_or b (2 ^ k) k in
    let f = bit_at-pow_same k in
    let l = bit_at-lt b k in
    e ∙ ap (λ x. max (bit_at b k) x) f ∙ omega arith

or_other : (b k i : ℕ) → (i ≡ k → ⊥) → bit_at (bit_or b (2 ^ k)) i ≡ bit_at b i
or_other b k i n = bit_at_or b (2 ^ k) i ∙ ap (λ x. max (bit_at b i) x) (bit_at-pow_other k i n) ∙ omega arith

pub sets : (k : Marks) (xs : List ℕ) (i : ℕ) → room k (i + 1) ≤ length xs → Sets k i xs (set_mark k xs i)
sets Bytes xs i l =
    record {
      long = length-set xs i 1;
      here = get_or-set_same xs i 1 0 (omega arith);
      others = λ j n. get_or-set_other xs i j 1 0 n;
      beyond = λ n j u w. get_or-set_other xs i j 1 0 (λ e. omega arith);
      fits = written xs i 1 (omega arith) (omega arith);
    }
sets Bits xs i l =
    record {
      long = length-set xs (i / 8) new;
      here = ap (λ x. bit_at x (i % 8)) at ∙ or_same (get_or xs (i / 8) 0) (i % 8);
      others = λ j n. ⊎_elim (same_byte j n) (λ d. ap (λ x. bit_at x (j % 8)) (get_or-set_other xs (i / 8) (j / 8) new 0 d)) (same_or_not (j / 8) (i / 8));
      beyond = λ n j u w. get_or-set_other xs (i / 8) j new 0 (λ e. omega arith);
      fits = fits;
    }
  where
    new : ℕ
    new = bit_or (get_or xs (i / 8) 0) (2 ^ (i % 8))

    at : get_or (set xs (i / 8) new) (i / 8) 0 ≡ new
    at = get_or-set_same xs (i / 8) new 0 (omega arith)

    -- the byte that gets the bit, and any other
    fits : (j : ℕ) → get_or xs j 0 < 256 → get_or (set xs (i / 8) new) j 0 < 256
    fits j h =
        ⊎_elim
        (λ e.
        let old : get_or xs (i / 8) 0 < 256 = subst (λ (x : ℕ). get_or xs x 0 < 256) e h in
        let one = or_lt 8 (get_or xs (i / 8) 0) (2 ^ (i % 8)) old (pow_below (i % 8) 8 (omega arith)) in
        subst (λ (x : ℕ). x < 256) (sym (ap (λ (x : ℕ). get_or (set xs (i / 8) new) x 0) e ∙ at)) one)
        (λ n. subst (λ (x : ℕ). x < 256) (sym (get_or-set_other xs (i / 8) j new 0 n)) h)
        (same_or_not j (i / 8))

    same_byte : (j : ℕ) → (j ≡ i → ⊥) → j / 8 ≡ i / 8 → bit_at (get_or (set xs (i / 8) new) (j / 8) 0) (j % 8) ≡ bit_at (get_or xs (j / 8) 0) (j % 8)
    same_byte j n e =
        rw e (ap (λ x. bit_at x (j % 8)) at ∙ or_other (get_or xs (i / 8) 0) (i % 8) (j % 8) (λ q. n (omega arith)))

-- an item that is set is marked; what is marked after it is the item, or was marked, and stays so
module _ {k : Marks} {i : ℕ} {xs ys : List ℕ} (s : Sets k i xs ys) where
  pub set_has : Has k ys i
  set_has = ap (λ (x : ℕ). not (eqb x 0)) s.here

  pub set_other : (v : ℕ) → Has k ys v → (v ≡ i) ⊎ Has k xs v
  set_other v h = ⊎_elim (λ e. inl e) (λ n. inr (ap (λ (x : ℕ). not (eqb x 0)) (sym (s.others v n)) ∙ h)) (same_or_not v i)

  pub set_keeps : (v : ℕ) → Has k xs v → Has k ys v
  set_keeps v h =
      ⊎_elim
      (λ e. subst (λ (x : ℕ). Has k ys x) (sym e) set_has)
      (λ n. ap (λ (x : ℕ). not (eqb x 0)) (s.others v n) ∙ h)
      (same_or_not v i)

-- ---- bytes that are 0 mark nothing
pub mark_none : (k : Marks) (xs : List ℕ) (u n : ℕ) → ((j : ℕ) → j < room k n → get_or xs j 0 ≡ 0) → u < n → mark_of k xs u ≡ 0
mark_none Bytes xs u n h l = h u l
mark_none Bits xs u n h l = ap (λ x. bit_at x (u % 8)) (h (u / 8) (omega arith)) ∙ bit_at-zero (u % 8)

pub none_has : (k : Marks) (xs : List ℕ) (u : ℕ) → mark_of k xs u ≡ 0 → Has k xs u → ⊥
none_has k xs u e h = eqb-false (mark_of k xs u) 0 (not_of _ h) e
  where
    not_of : (b : Bool) → not b ≡ true → b ≡ false
    not_of true x = failed x
    not_of false x = refl

-- the first n bytes cleared
module _ (n : ℕ) (xs : List ℕ) (l : n ≤ length xs) where
  pub cleared_long : length (cleared n xs) ≡ length xs
  cleared_long =
      let a = length-append (replicate n 0) (drop n xs) in
      let b = length-replicate {A = ℕ} n 0 in
      let c = length-drop n xs in
      omega arith

  pub cleared_first : (i : ℕ) → i < n → get_or (cleared n xs) i 0 ≡ 0
  cleared_first i u = let b = length-replicate {A = ℕ} n 0 in get_or_append_left (replicate n 0) (drop n xs) 0 i (omega arith) ∙ get_or-replicate n i 0 0 u

  pub cleared_beyond : (i : ℕ) → n ≤ i → get_or (cleared n xs) i 0 ≡ get_or xs i 0
  cleared_beyond i u =
      let e : n + (i - n) ≡ i = omega arith in
      get_or-append_right (replicate n 0) (drop n xs) n i 0 (length-replicate n 0) u ∙ get_or-drop n xs (i - n) 0 ∙ ap (λ x. get_or xs x 0) e

-- bytes that are all 0
pub all_zero : (n i : ℕ) → ◌≡◌ {A = ℕ} (get_or (replicate n 0) i 0) 0
all_zero n i =
    elim (dec_le n i) [
      | yes g ↦ (let e = length-replicate {A = ℕ} n 0 in get_or_past (replicate n 0) i 0 (omega arith))
      | no g ↦ get_or-replicate n i 0 0 (omega arith)
    ]

-- ---- a byte by its bits
total_same : (f g : ℕ → ℕ) (n : ℕ) → ((i : ℕ) → i < n → f i ≡ g i) → total f n ≡ total g n
unfolding total
total_same f g zero e = refl
total_same f g (suc n) e = let a = total_same f g n (λ i l. e i (omega arith)) in let b = e n (omega arith) in omega arith

by_bits : (b k : ℕ) → b % 2 ^ k ≡ total (λ j. bit_at b j * 2 ^ j) k
unfolding total
by_bits b zero = omega arith
by_bits b (suc k) =
    let i = by_bits b k in
    let e : b % 2 ^ suc k ≡ (b / 2 ^ k % 2) * 2 ^ k + b % 2 ^ k = rw one-add at (mod-pow-add b 1 k) in
    omega (arith, e)

pub by_eight : (b : ℕ) → b < 256 → b ≡ total (λ j. bit_at b j * 2 ^ j) 8
by_eight b l = let e = by_bits b 8 in omega (arith, e)

-- and its bits by what it was made of
times_few : (a b : ℕ) → a < 2 → a * b ≤ b
times_few a b l =
    elim (dec_le a 0) [
      | yes g ↦ (let e : a ≡ 0 = omega arith in rw e (omega arith))
      | no g ↦ (let e : a ≡ 1 = omega arith in rw e (omega arith))
    ]

module _ (g : ℕ → ℕ) (few : (j : ℕ) → g j < 2) where
  total_below : (k : ℕ) → total (λ j. g j * 2 ^ j) k < 2 ^ k
  unfolding total
  total_below zero = omega arith
  total_below (suc k) =
      let i = total_below k in
      let b = times_few (g k) (2 ^ k) (few k) in
      let p : 2 ^ suc k ≡ 2 ^ k * 2 = rw add-one at (pow-add 2 k 1) in
      omega (arith, i, b, p)

  pub bit_of_total : (k j : ℕ) → j < k → bit_at (total (λ i. g i * 2 ^ i) k) j ≡ g j
  unfolding total
  bit_of_total zero j l = absurd (omega arith)
  bit_of_total (suc k) j l =
      let i = bit_of_total k j in
      let b = total_below k in
      let turned : total (λ i. g i * 2 ^ i) k + g k * 2 ^ k ≡ g k * 2 ^ k + total (λ i. g i * 2 ^ i) k = omega arith in
      elim (dec_le k j) [
        | yes h ↦ (
            let e : j ≡ k = omega arith in
            let z : j - k ≡ 0 = omega arith in
            let w = few k in
            ap (λ x. bit_at x j) turned ∙ bit_at_cat_high (g k) k (total (λ i. g i * 2 ^ i) k) j b h ∙ ap (bit_at (g k)) z ∙ rw e (omega arith)
            )
        | no h ↦ ap (λ x. bit_at x j) turned ∙ bit_at_cat_low (g k) k (total (λ i. g i * 2 ^ i) k) j (omega arith) ∙ i (omega arith)
      ]

-- ---- the bytes that the marks of n items are
few_bit : (b : Bool) → bit b < 2
few_bit true = omega arith
few_bit false = omega arith

-- what a byte is by its marks: those of n items are told by f, and those past them are as in bytes that are 0
module _ (f : ℕ → Bool) (n : ℕ) (start xs : List ℕ) where
  pub byte_is :
      (k : Marks) → ((i : ℕ) → i < room k n → get_or xs i 0 < 256) → ((i : ℕ) → i < room k n → get_or start i 0 ≡ 0) → ((u : ℕ) → u < n → mark_of k xs u ≡ bit (f u)) → ((u : ℕ) → n ≤ u → mark_of k xs u ≡ mark_of k start u)
      → (i : ℕ) → i < room k n → get_or xs i 0 ≡ byte_of_marks k f n i
  byte_is Bytes few zeros told past i l = told i l
  byte_is Bits few zeros told past i l =
      by_eight (get_or xs i 0) (few i l)
      ∙ total_same (λ j. bit_at (get_or xs i 0) j * 2 ^ j) (λ j. bit (ltb (i * 8 + j) n && f (i * 8 + j)) * 2 ^ j) 8 (λ j u. ap (λ x. x * 2 ^ j) (at j u))
    where
      -- bit j of byte i is the mark of item 8 i + j
      of_item : (ys : List ℕ) (j : ℕ) → j < 8 → mark_of Bits ys (i * 8 + j) ≡ bit_at (get_or ys i 0) j
      of_item ys j u =
          let d = div-mul-add i 8 j u in
          let r = mod-mul-add i 8 j u in
          ap (λ x. bit_at (get_or ys x 0) ((i * 8 + j) % 8)) d ∙ ap (λ x. bit_at (get_or ys i 0) x) r

      at : (j : ℕ) → j < 8 → bit_at (get_or xs i 0) j ≡ bit (ltb (i * 8 + j) n && f (i * 8 + j))
      at j u =
          elim (dec_le n (i * 8 + j)) [
            | yes g ↦ rw (le-ltb (i * 8 + j) n g) (sym (of_item xs j u) ∙ past (i * 8 + j) g ∙ of_item start j u ∙ ap (λ x. bit_at x j) (zeros i l) ∙ bit_at-zero j)
            | no g ↦ rw (lt-ltb (i * 8 + j) n (omega arith)) (sym (of_item xs j u) ∙ told (i * 8 + j) (omega arith))
          ]

-- the bytes are the same where the first n items are
map_same : (f g : ℕ → ℕ) (a n : ℕ) → ((i : ℕ) → a ≤ i → i < a + n → f i ≡ g i) → map f (range_with_len a n) ≡ map g (range_with_len a n)
map_same f g a zero e = refl
map_same f g a (suc n) e = ap₂ (λ x xs. x ∷ xs) (e a (omega arith) (omega arith)) (map_same f g (a + 1) n (λ i l u. e i (omega arith) (omega arith)))

module _ (f g : ℕ → Bool) (n : ℕ) (xs : List ℕ) (same : (u : ℕ) → u < n → f u ≡ g u) where
  byte_same : (k : Marks) (i : ℕ) → i < room k n → byte_of_marks k f n i ≡ byte_of_marks k g n i
  byte_same Bytes i l = ap bit (same i l)
  byte_same Bits i l =
      total_same (λ j. bit (ltb (i * 8 + j) n && f (i * 8 + j)) * 2 ^ j) (λ j. bit (ltb (i * 8 + j) n && g (i * 8 + j)) * 2 ^ j) 8 (λ j u. ap (λ b. bit b * 2 ^ j) (at j))
    where
      at : (j : ℕ) → (ltb (i * 8 + j) n && f (i * 8 + j)) ≡ (ltb (i * 8 + j) n && g (i * 8 + j))
      at j =
          elim (dec_le n (i * 8 + j)) [
            | yes h ↦ rw (le-ltb (i * 8 + j) n h) refl
            | no h ↦ rw (same (i * 8 + j) (omega arith)) refl
          ]

  pub marked_same : (k : Marks) → marked k f n xs ≡ marked k g n xs
  unfolding marked
  marked_same k = ap (λ ys. ys ++ drop (room k n) xs) (map_same (byte_of_marks k f n) (byte_of_marks k g n) 0 (room k n) (λ i a l. byte_same k i (omega arith)))

-- bytes that begin with those, and else are as before
pub all_marked :
    (k : Marks) (f : ℕ → Bool) (n : ℕ) (before after : List ℕ) → room k n ≤ length before → length after ≡ length before
    → ((i : ℕ) → i < room k n → get_or after i 0 ≡ byte_of_marks k f n i) → ((i : ℕ) → room k n ≤ i → get_or after i 0 ≡ get_or before i 0)
    → after ≡ marked k f n before
unfolding marked
all_marked k f n before after l e first beyond =
    let xs = map (byte_of_marks k f n) (range_with_len 0 (room k n)) in
    let a = length-map-range_with_len (byte_of_marks k f n) 0 (room k n) in
    let b = length-append xs (drop (room k n) before) in
    let c = length-drop (room k n) before in
    ext_get_or 0 after (xs ++ drop (room k n) before) (omega arith) (λ i u. at i)
  where
    at : (i : ℕ) → get_or after i 0 ≡ get_or (map (byte_of_marks k f n) (range_with_len 0 (room k n)) ++ drop (room k n) before) i 0
    at i =
        let xs = map (byte_of_marks k f n) (range_with_len 0 (room k n)) in
        let a = length-map-range_with_len (byte_of_marks k f n) 0 (room k n) in
        elim (dec_le (room k n) i) [
          | yes g ↦ (
              let y : room k n + (i - room k n) ≡ i = omega arith in
              beyond i g ∙ sym (get_or-append_right xs (drop (room k n) before) (room k n) i 0 a g ∙ get_or-drop (room k n) before (i - room k n) 0 ∙ ap (λ x. get_or before x 0) y)
              )
          | no g ↦ (
              let z : 0 + i ≡ i = omega arith in
              first i (omega arith) ∙ sym (get_or_append_left xs (drop (room k n) before) 0 i (omega arith) ∙ get_or-map-range_with_len (byte_of_marks k f n) 0 (room k n) i i 0 (omega arith) z)
              )
        ]

-- and the marks of such bytes
module _ (f : ℕ → Bool) (n : ℕ) (xs : List ℕ) (u : ℕ) (l : u < n) where
  first_byte : (k : Marks) (i : ℕ) → i < room k n → get_or (marked k f n xs) i 0 ≡ byte_of_marks k f n i
  unfolding marked
  first_byte k i h =
      let a = length-map-range_with_len (byte_of_marks k f n) 0 (room k n) in
      let z : 0 + i ≡ i = omega arith in
      get_or_append_left (map (byte_of_marks k f n) (range_with_len 0 (room k n))) (drop (room k n) xs) 0 i (omega arith)
      ∙ get_or-map-range_with_len (byte_of_marks k f n) 0 (room k n) i i 0 h z

  pub mark_tells : (k : Marks) → mark_of k (marked k f n xs) u ≡ bit (f u)
  mark_tells Bytes = first_byte Bytes u l
  mark_tells Bits =
      let g : ℕ → ℕ = λ j. bit (ltb (u / 8 * 8 + j) n && f (u / 8 * 8 + j)) in
      let e : u / 8 * 8 + u % 8 ≡ u = omega arith in
      ap (λ x. bit_at x (u % 8)) (first_byte Bits (u / 8) (omega arith))
      ∙ bit_of_total g (λ j. few_bit _) 8 (u % 8) (omega arith)
      ∙ rw (e, lt-ltb u n l) refl
