-- The bytes of a turned pack, and the numbers that they make. Assumes nothing.
use Rattle.std.proofs.Common.{ℕ, zero, suc, ◌+◌, ◌*◌, ◌-◌, ◌/◌, ◌%◌, ◌<◌, List, get_or, length, ◌≡◌, refl, ◌∙◌, ap, arith, ext_get_or}
use Rattle.std.proofs.lemmas.List.FromFn.{length-map-range_with_len, get_or-map-range_with_len}
use Rattle.schema.specs.Number.{number}
use Rattle.schema.specs.Layout.{bytes, offset, field_at}
use Rattle.schema.specs.Bytes.{Whole, IsRecord, byte_of}
use Rattle.packing.specs.Shape.{layout_of}
use Rattle.packing.proofs.Limits.{used_most}
use Rattle.convert.specs.Turned.{other, turned_byte, turned, low_first}
use Rattle.convert.specs.Promises.{TurnsNumbers, KeepsRest}
use Rattle.convert.proofs.Ends.{field_upto, field_ends, field_from, in_head, in_numbers, other_past, other_inside, other_twice}

pub length-turned : (p : List ℕ) → length (turned p) ≡ length p
unfolding turned
length-turned p = length-map-range_with_len (λ (i : ℕ). turned_byte p (i / 64) (i % 64)) 0 (length p)

turned_at : (p : List ℕ) (i : ℕ) → i < length p → get_or (turned p) i 0 ≡ turned_byte p (i / 64) (i % 64)
unfolding turned
turned_at p i h =
    get_or-map-range_with_len (λ (j : ℕ). turned_byte p (j / 64) (j % 64)) 0 (length p) i i 0 h (omega arith)

-- byte j of record n
pub byte_turned : (p : List ℕ) (n j : ℕ) → IsRecord p n → j < 64 → byte_of (turned p) n j ≡ turned_byte p n j
byte_turned p n j h g =
    let a : (n * 64 + j) / 64 ≡ n = omega arith in
    let b : (n * 64 + j) % 64 ≡ j = omega arith in
    rw (a, b) at (turned_at p (n * 64 + j) (omega arith))

pub head_kept : (p : List ℕ) (n j : ℕ) → IsRecord p n → j < 4 → byte_of (turned p) n j ≡ byte_of p n j
head_kept p n j h g = byte_turned p n j h (omega arith) ∙ ap (byte_of p n) (in_head (layout_of (byte_of p n 0)) j g)

pub keeps_rest : KeepsRest
keeps_rest p = (
  length-turned p,
  λ n j h g. head_kept p n j h g,
  λ n j h l g. byte_turned p n j h g ∙ ap (byte_of p n) (other_past (layout_of (byte_of p n 0)) j l),
)

-- turned twice, a pack of whole records is as it was
module _ (p : List ℕ) (w : Whole p) where
  twice_byte : (n j : ℕ) → IsRecord p n → j < 64 → byte_of (turned (turned p)) n j ≡ byte_of p n j
  twice_byte n j h g =
      let l = layout_of (byte_of p n 0) in
      let k = length-turned p in
      let there : IsRecord (turned p) n = omega arith in
      let inside : other l j < 64 = other_inside l j 64 (used_most (byte_of p n 0)) g in
      let one : byte_of (turned (turned p)) n j ≡ byte_of (turned p) n (other l j) = rw (head_kept p n 0 h (omega arith)) at (byte_turned (turned p) n j there g) in
      let two : byte_of (turned p) n (other l j) ≡ byte_of p n (other l (other l j)) = byte_turned p n (other l j) h inside in
      one ∙ (two ∙ ap (byte_of p n) (other_twice l j))

  pub turned-turned : turned (turned p) ≡ p
  turned-turned =
      let k = length-turned p in
      let m = length-turned (turned p) in
      ext_get_or 0 (turned (turned p)) p (m ∙ k)
      (λ i h.
      let e : i / 64 * 64 + i % 64 ≡ i = omega arith in
      rw e at (twice_byte (i / 64) (i % 64) (omega arith) (omega arith)))

-- bytes in the other order are the number low byte first, for any width
reversed : (w : ℕ) (p q : List ℕ) (o a : ℕ) → ((i : ℕ) → i < w → get_or q (a + i) 0 ≡ get_or p (o + (w - 1 - i)) 0) → number w q a ≡ low_first w p o
unfolding number low_first
reversed zero p q o a f = refl
reversed (suc w) p q o a f =
    let e : o + (suc w - 1 - w) ≡ o = omega arith in
    let last : get_or q (a + w) 0 ≡ get_or p o 0 = rw e at (f w (omega arith)) in
    let before : number w q a ≡ low_first w p (o + 1) = reversed w p q (o + 1) a
    (λ i h. let d : o + (suc w - 1 - i) ≡ o + 1 + (w - 1 - i) = omega arith in rw d at (f i (omega arith))) in
    rw (last, before) refl

pub turns_numbers : TurnsNumbers
turns_numbers p n k h g =
    let l = layout_of (byte_of p n 0) in
    let o = offset l k in
    let w = bytes (field_at l k) in
    let u = field_upto 4 l.fields k g in
    let v = used_most (byte_of p n 0) in
    let s = field_from 4 l.fields k in
    reversed w p (turned p) (n * 64 + o) (n * 64 + o)
    (λ i b.
    let d : n * 64 + o + i ≡ n * 64 + (o + i) = omega arith in
    let e : n * 64 + o + (w - 1 - i) ≡ n * 64 + (o + (w - 1 - i)) = omega arith in
    let turn : other l (o + i) ≡ o + (w - 1 - i) = in_numbers l (o + i) (omega arith) ∙ field_ends 4 l.fields k i g b in
    rw (d, e) (byte_turned p n (o + i) h (omega arith) ∙ ap (byte_of p n) turn))
