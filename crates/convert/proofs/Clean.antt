-- Turning keeps what 3 and 4 look at: bytes 0 to 3, and whether whole numbers are zero. Assumes nothing.
use Rattle.std.proofs.Common.{ℕ, zero, suc, ◌+◌, ◌*◌, ◌-◌, ◌<◌, ◌≤◌, Bool, true, false, ◌&&◌, List, [], ltb, leb, eqb, get_or, ◌≡◌, refl, sym, ◌∙◌, ap, arith}
use borrow.Author.Tests.{ltb-true, leb-true, eqb-true}
use Rattle.identity.proofs.Tests.{cases, both, below_or_not}
use Rattle.schema.specs.Layout.{Layout, plain, layouts}
use Rattle.schema.specs.Bytes.{IsRecord, byte_of}
use Rattle.packing.specs.declared.PackKind.{PackKind}
use Rattle.packing.specs.Shape.{layout_of, used, governed_offset, governed_bytes}
use Rattle.packing.specs.Clean.{zeros, clean, kind_clean}
use Rattle.packing.specs.Packing.{in_place}
use Rattle.packing.proofs.Tables.{every, every-at, below, below_at}
use Rattle.convert.specs.Turned.{other_end, other, turned}
use Rattle.convert.proofs.Ends.{other_twice}
use Rattle.convert.proofs.Bytes.{byte_turned, head_kept}

-- the k bytes from a on are inside the record, and go among themselves
closed_at : Layout → ℕ → ℕ → ℕ → Bool
closed_at l a k j = leb a (other l (a + j)) && ltb (other l (a + j)) (a + k)

closed : Layout → ℕ → ℕ → Bool
closed l a k = leb (a + k) 64 && below (closed_at l a k) k

-- those that `clean` looks at are such: the tail, what a bit governs, and the D of an action
tail_closed : Layout → Bool
tail_closed l = closed l (used l) (64 - used l)

governed_closed : ℕ → Layout → Bool
governed_closed k l = closed l (governed_offset k 4 l.fields) (governed_bytes k l.fields)

closed-tail : (t : ℕ) → tail_closed (layout_of t) ≡ true
unfolding layouts every below closed_at closed tail_closed other_end
closed-tail t = every-at tail_closed layouts (plain []) t refl refl

closed-0 : (t : ℕ) → governed_closed 0 (layout_of t) ≡ true
unfolding layouts every below closed_at closed governed_closed other_end
closed-0 t = every-at (governed_closed 0) layouts (plain []) t refl refl

closed-1 : (t : ℕ) → governed_closed 1 (layout_of t) ≡ true
unfolding layouts every below closed_at closed governed_closed other_end
closed-1 t = every-at (governed_closed 1) layouts (plain []) t refl refl

closed-delay : closed (layout_of 3) 16 8 ≡ true
unfolding layouts below closed_at closed other_end
closed-delay = refl

same_truth : (a b : Bool) → (a ≡ true → b ≡ true) → (b ≡ true → a ≡ true) → a ≡ b
same_truth true b f g = sym (f refl)
same_truth false true f g = g refl
same_truth false false f g = refl

zeros_at : (p : List ℕ) (o k j : ℕ) → zeros p o k ≡ true → j < k → get_or p (o + j) 0 ≡ 0
unfolding zeros
zeros_at p o zero j e h = absurd (omega arith)
zeros_at p o (suc k) j e h =
    let b = both (zeros p o k) (eqb (get_or p (o + k) 0) 0) e in
    below_or_not j k
    (λ l. zeros_at p o k j b.0 l)
    (λ l. let q : j ≡ k = omega arith in rw q (eqb-true (get_or p (o + k) 0) 0 b.1))

all_zeros : (p : List ℕ) (o k : ℕ) → ((j : ℕ) → j < k → get_or p (o + j) 0 ≡ 0) → zeros p o k ≡ true
unfolding zeros
all_zeros p o zero f = refl
all_zeros p o (suc k) f = rw (all_zeros p o k (λ j h. f j (omega arith)), f k (omega arith)) refl

module _ (p : List ℕ) (n : ℕ) (h : IsRecord p n) where
  zeros_kept : (a k : ℕ) → closed (layout_of (byte_of p n 0)) a k ≡ true → zeros (turned p) (n * 64 + a) k ≡ zeros p (n * 64 + a) k
  unfolding closed closed_at
  zeros_kept a k c =
      let l = layout_of (byte_of p n 0) in
      let b = both (leb (a + k) 64) (below (closed_at l a k) k) c in
      let m : a + k ≤ 64 = leb-true (a + k) 64 b.0 in
      let go : (j : ℕ) → j < k → (a ≤ other l (a + j)) × (other l (a + j) < a + k) = λ j g.
      let d = both (leb a (other l (a + j))) (ltb (other l (a + j)) (a + k)) (below_at (closed_at l a k) k j b.1 g) in
      (leb-true a (other l (a + j)) d.0, ltb-true (other l (a + j)) (a + k) d.1) in
      let there : (j : ℕ) → n * 64 + a + j ≡ n * 64 + (a + j) = λ j. omega arith in
      same_truth (zeros (turned p) (n * 64 + a) k) (zeros p (n * 64 + a) k)
      (λ z. all_zeros p (n * 64 + a) k (λ j g.
      let r = go j g in
      let i = other l (a + j) - a in
      let d : n * 64 + a + i ≡ n * 64 + other l (a + j) = omega arith in
      let x : byte_of (turned p) n (other l (a + j)) ≡ 0 = rw d at (zeros_at (turned p) (n * 64 + a) k i z (omega arith)) in
      let y : byte_of (turned p) n (other l (a + j)) ≡ byte_of p n (a + j) = byte_turned p n (other l (a + j)) h (omega arith) ∙ ap (byte_of p n) (other_twice l (a + j)) in
      rw (there j) (sym y ∙ x)))
      (λ z. all_zeros (turned p) (n * 64 + a) k (λ j g.
      let r = go j g in
      let i = other l (a + j) - a in
      let d : n * 64 + a + i ≡ n * 64 + other l (a + j) = omega arith in
      let x : byte_of p n (other l (a + j)) ≡ 0 = rw d at (zeros_at p (n * 64 + a) k i z (omega arith)) in
      rw (there j) (byte_turned p n (a + j) h (omega arith) ∙ x)))

  kind_kept : kind_clean (byte_of p n 0) (turned p) n ≡ kind_clean (byte_of p n 0) p n
  kind_kept =
      let b1 = head_kept p n 1 h (omega arith) in
      let b2 = head_kept p n 2 h (omega arith) in
      cases (eqb (byte_of p n 0) 3)
      (λ e.
      let t : byte_of p n 0 ≡ 3 = eqb-true (byte_of p n 0) 3 e in
      let c : closed (layout_of (byte_of p n 0)) 16 8 ≡ true = rw t closed-delay in
      rw (e, b1, b2, zeros_kept 16 8 c) refl)
      (λ e. rw (e, b1, b2) refl)

  pub clean_kept : clean (turned p) n ≡ clean p n
  unfolding clean tail_closed governed_closed
  clean_kept =
      let t = byte_of p n 0 in
      let l = layout_of t in
      let b0 = head_kept p n 0 h (omega arith) in
      let b1 = head_kept p n 1 h (omega arith) in
      let b2 = head_kept p n 2 h (omega arith) in
      let b3 = head_kept p n 3 h (omega arith) in
      let z = zeros_kept (used l) (64 - used l) (closed-tail t) in
      let z0 = zeros_kept (governed_offset 0 4 l.fields) (governed_bytes 0 l.fields) (closed-0 t) in
      let z1 = zeros_kept (governed_offset 1 4 l.fields) (governed_bytes 1 l.fields) (closed-1 t) in
      rw (b0, kind_kept, b1, b2, b3, z, z0, z1) refl

pub place_kept : (kind : PackKind) (p : List ℕ) (n : ℕ) → IsRecord p n → in_place kind (turned p) n ≡ in_place kind p n
place_kept kind p zero h = rw (head_kept p 0 0 h (omega arith)) refl
place_kept kind p (suc n) h = rw (head_kept p n 0 (omega arith) (omega arith), head_kept p (suc n) 0 h (omega arith)) refl
