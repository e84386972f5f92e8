-- The order of two texts, byte by byte. Assumes nothing.
use Prim.Native.Nat.{ℕ, zero, suc, ◌-◌, ◌<◌, ◌≤◌, min}
use mathlib.Core.Bool.{Bool, true}
use mathlib.Core.Path.{◌≡◌, refl, ◌∙◌, sym}
use mathlib.Core.List.{List, [], ◌∷◌, ◌++◌}
use native.Mathlib.Omega.{arith}
use lib.Dec.{ltb}
use lib.ListN.{length, get_or, take, drop}
use borrow.Author.Tests.{ltb-true, ltb-false, lt-ltb, le-ltb, eqb-true}
use Rattle.std.specs.declared.cmp.Ordering.TheVariants.{Less, Equal, Greater}
use Rattle.identity.specs.Order.{compared}
use Rattle.identity.specs.Scan.{every, same_at}
use Rattle.identity.proofs.Tests.{cases}
use Rattle.identity.proofs.Steps.{every-at}
use Rattle.std.specs.Ordering.{nat_cmp}
use Rattle.std.specs.Cmp.{nat_cmp_is}
use Rattle.std.proofs.Math.ListN.{get_or-append}
use Rattle.std.proofs.lemmas.List.{take_rest, take-append-drop, drop_min, length-take, length-drop, length-append, drop-append-le}

-- The order of the texts l and r is that of a and b, which are equally long, with what each text has beyond the length of the other.
pub record Rests (l r a b : List ℕ) : Type 0 where
  pub even : length a ≡ length b
  pub same : compared l r ≡ compared (a ++ drop (length r) l) (b ++ drop (length l) r)

left-over : (a b : List ℕ) → 0 < length a → length b ≡ 0 → compared a b ≡ Greater
unfolding compared
left-over [] b h e = absurd (omega arith)
left-over (x ∷ a) [] h e = refl
left-over (x ∷ a) (y ∷ b) h e = absurd (omega arith)

right-over : (a b : List ℕ) → length a ≡ 0 → 0 < length b → compared a b ≡ Less
unfolding compared
right-over [] [] e h = absurd (omega arith)
right-over [] (y ∷ b) e h = refl
right-over (x ∷ a) b e h = absurd (omega arith)

none-over : (a b : List ℕ) → length a ≡ 0 → length b ≡ 0 → compared a b ≡ Equal
unfolding compared
none-over [] [] e h = refl
none-over [] (y ∷ b) e h = absurd (omega arith)
none-over (x ∷ a) b e h = absurd (omega arith)

head-below : (a b : List ℕ) → 0 < length a → 0 < length b → get_or a 0 0 < get_or b 0 0 → compared a b ≡ Less
unfolding compared
head-below [] b h g l = absurd (omega arith)
head-below (x ∷ a) [] h g l = absurd (omega arith)
head-below (x ∷ a) (y ∷ b) h g l = rw (lt-ltb x y l)

head-above : (a b : List ℕ) → 0 < length a → 0 < length b → get_or b 0 0 < get_or a 0 0 → compared a b ≡ Greater
unfolding compared
head-above [] b h g l = absurd (omega arith)
head-above (x ∷ a) [] h g l = absurd (omega arith)
head-above (x ∷ a) (y ∷ b) h g l = rw (le-ltb x y (omega arith), lt-ltb y x l)

heads-same : (a b : List ℕ) → 0 < length a → 0 < length b → get_or a 0 0 ≡ get_or b 0 0 → compared a b ≡ compared (drop 1 a) (drop 1 b)
unfolding compared
heads-same [] b h g e = absurd (omega arith)
heads-same (x ∷ a) [] h g e = absurd (omega arith)
heads-same (x ∷ a) (y ∷ b) h g e = rw (le-ltb x y (omega arith), le-ltb y x (omega arith))

run-same : (k : ℕ) (a b : List ℕ) → k ≤ length a → k ≤ length b → ((i : ℕ) → i < k → get_or a i 0 ≡ get_or b i 0) → compared a b ≡ compared (drop k a) (drop k b)
unfolding compared
run-same zero a b h g f = refl
run-same (suc k) [] b h g f = absurd (omega arith)
run-same (suc k) (x ∷ a) [] h g f = absurd (omega arith)
run-same (suc k) (x ∷ a) (y ∷ b) h g f = heads-same (x ∷ a) (y ∷ b) (omega arith) (omega arith) (f 0 (omega arith)) ∙ run-same k a b (omega arith) (omega arith) (λ i l. f (suc i) (omega arith))

-- the part of a text up to the shorter length, with what is beyond the other's
whole : (l : List ℕ) (n m : ℕ) → n ≡ min m (length l) → take n l ++ drop m l ≡ l
whole l n m e = rw (e, ← drop_min m l) (take-append-drop (min m (length l)) l)

pub rests_start : (l r : List ℕ) (n : ℕ) → n ≡ min (length l) (length r) → Rests l r (take n l) (take n r)
rests_start l r n e =
    let a : n ≡ min (length r) (length l) = omega arith in
    record { even = simp length-take (omega arith); same = rw (whole l n (length r) a, whole r n (length l) e) }

-- where neither has anything left, the lengths decide
over : (l r : List ℕ) → compared (drop (length r) l) (drop (length l) r) ≡ nat_cmp (length l) (length r)
over l r =
    let a = length-drop (length r) l in
    let b = length-drop (length l) r in
    cases (ltb (length l) (length r))
    (λ t. let h = ltb-true _ _ t in
    right-over _ _ (omega arith) (omega arith) ∙ nat_cmp_is _ _ Less h)
    (λ f. let g = ltb-false _ _ f in
    cases (ltb (length r) (length l))
    (λ t. let h = ltb-true _ _ t in
    left-over _ _ (omega arith) (omega arith) ∙ nat_cmp_is _ _ Greater h)
    (λ e. let h = ltb-false _ _ e in
    let q : length l ≡ length r = omega arith in
    none-over _ _ (omega arith) (omega arith) ∙ nat_cmp_is _ _ Equal q))

none-left : (a x : List ℕ) → length a ≤ 0 → a ++ x ≡ x
none-left [] x h = refl
none-left (y ∷ a) x h = absurd (omega arith)

module _ {l r a b : List ℕ} (t : Rests l r a b) where
  abbrev x : List ℕ
  x = drop (length r) l

  abbrev y : List ℕ
  y = drop (length l) r

  longer : (k : ℕ) (c z : List ℕ) → k ≤ length c → k ≤ length (c ++ z)
  longer k c z h = simp length-append (omega arith)

  pub rests_over : length a ≤ 0 → nat_cmp (length l) (length r) ≡ compared l r
  rests_over h =
      let e = t.even in
      sym (t.same ∙ rw (none-left a x h, none-left b y (omega arith)) (over l r))

  pub rests_below : 0 < length a → get_or a 0 0 < get_or b 0 0 → Less ≡ compared l r
  rests_below h e =
      let k = t.even in
      let p = get_or-append a x 0 0 h in
      let q = get_or-append b y 0 0 (omega arith) in
      sym (t.same ∙ head-below (a ++ x) (b ++ y) (longer 1 a x h) (longer 1 b y (omega arith)) (omega arith))

  pub rests_above : 0 < length a → get_or b 0 0 < get_or a 0 0 → Greater ≡ compared l r
  rests_above h e =
      let k = t.even in
      let p = get_or-append a x 0 0 h in
      let q = get_or-append b y 0 0 (omega arith) in
      sym (t.same ∙ head-above (a ++ x) (b ++ y) (longer 1 a x h) (longer 1 b y (omega arith)) (omega arith))

  -- the first k bytes, which are the same, left off
  rests_on : (k : ℕ) → k ≤ length a → ((i : ℕ) → i < k → get_or a i 0 ≡ get_or b i 0) → Rests l r (take (length a - k) (drop k a)) (take (length b - k) (drop k b))
  rests_on k h f =
      let e = t.even in
      let g : k ≤ length b = omega arith in
      let same : (i : ℕ) → i < k → get_or (a ++ x) i 0 ≡ get_or (b ++ y) i 0 =
      (λ i m. get_or-append a x 0 i (omega arith) ∙ f i m ∙ sym (get_or-append b y 0 i (omega arith))) in
      record {
        even = rw (take_rest a k, take_rest b k) (simp length-drop (omega arith));
        same = t.same ∙ run-same k (a ++ x) (b ++ y) (longer k a x h) (longer k b y g) same ∙ rw (take_rest a k, take_rest b k, drop-append-le k a x h, drop-append-le k b y g);
      }

  pub rests_step : 0 < length a → get_or b 0 0 ≤ get_or a 0 0 → get_or a 0 0 ≤ get_or b 0 0 → Rests l r (take (length a - 1) (drop 1 a)) (take (length b - 1) (drop 1 b))
  rests_step h e f = rests_on 1 h (λ i m. let z : i ≡ 0 = omega arith in rw z (omega arith))

  pub rests_block : (same : Bool) → same ≡ every (same_at a b) 0 32 → same ≡ true → 32 ≤ length a → Rests l r (take (length a - 32) (drop 32 a)) (take (length b - 32) (drop 32 b))
  rests_block same e f h = rests_on 32 h (λ i m. eqb-true _ _ (every-at (same_at a b) 0 32 i (sym e ∙ f) (omega arith) (omega arith)))

pub ruleset order_laws = (rests_start, rests_block, rests_over, rests_below, rests_above, rests_step)

-- Equal stands for equal texts, and for no others
pub compared_same : (a : List ℕ) → compared a a ≡ Equal
unfolding compared
compared_same [] = refl
compared_same (x ∷ a) = rw (le-ltb x x (omega arith)) (compared_same a)

pub compared-equal : (a b : List ℕ) → compared a b ≡ Equal → a ≡ b
unfolding compared
compared-equal [] [] e = refl
compared-equal [] (y ∷ b) e = cc
compared-equal (x ∷ a) [] e = cc
compared-equal (x ∷ a) (y ∷ b) e =
    cases (ltb x y) (λ t. let h = rw t at e in cc)
    (λ f. cases (ltb y x) (λ t. let h = rw (f, t) at e in cc)
    (λ g.
    let l = ltb-false x y f in
    let h = ltb-false y x g in
    let n : x ≡ y = omega arith in
    rw (n, compared-equal a b (rw (f, g) at e))))
