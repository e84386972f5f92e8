-- UTF-8, scalar by scalar: the steps of `is_utf8`. Assumes nothing.
use Prim.Native.Nat.{ℕ, ◌+◌, ◌<◌, ◌≤◌}
use mathlib.Core.Bool.{Bool, true, false}
use mathlib.Core.Path.{◌≡◌, refl, ◌∙◌, ap, sym}
use mathlib.Core.List.{List}
use native.Mathlib.Omega.{arith}
use lib.ListN.{length, get_or, drop}
use Rattle.std.specs.Prelude.{Option, Some, None, is_some}
use Rattle.identity.specs.declared.decode.Scalar.{Scalar}
use Rattle.identity.specs.Utf8.{before, decode, utf8, scalar_at}
use Rattle.identity.specs.Scan.{every, ascii_at, Stepped, utf8_from}
use Rattle.identity.proofs.Tests.{both}
use lib.Dec.{ltb}
use borrow.Author.Tests.{ltb-true}
use Rattle.identity.proofs.Steps.{along, Kept}
use Rattle.identity.proofs.Scalar.{ascii-scalar, width-at, ends_at, decode-at, decode-none, decode-end}

some-before : (v : ℕ) (x : Option (List ℕ)) → is_some (before v x) ≡ is_some x
some-before v (Some vs) = refl
some-before v None = refl

pub over-scalar : (s : List ℕ) (i : ℕ) {x : Scalar} → i < length s → scalar_at s i ≡ Some x → utf8_from s i ≡ utf8_from s (i + x.width)
over-scalar s i {x} h e = ap is_some (decode-at s i h e) ∙ some-before x.value (decode (drop (i + x.width) s))

-- a step over what was found at i, a scalar or none
module _ (s : List ℕ) (i : ℕ) (h : i < length s) where
  pub utf8-none : None ≡ scalar_at s i → utf8_from s i ≡ false
  utf8-none e = ap is_some (decode-none s i h (sym e))

  pub utf8-scalar : {x : Scalar} → Some x ≡ scalar_at s i → Stepped (utf8_from s) (length s) i x.width
  utf8-scalar e =
      record { inside = ends_at s i h (sym e); forward = (width-at s i (sym e)).0; same = over-scalar s i h (sym e) }

pub utf8-end : (s : List ℕ) (i : ℕ) → Kept (utf8 s) (utf8_from s) (length s) i → length s ≤ i → true ≡ utf8 s
utf8-end s i p h = sym (p.same ∙ ap is_some (decode-end s i h))

-- a text of ASCII alone
pub utf8_ascii : (s : List ℕ) (a : Bool) → a ≡ every (ascii_at true s) 0 (length s) → a ≡ true → true ≡ utf8 s
utf8_ascii s a e t =
    sym (along (ascii_at true s) (λ j. utf8 s ≡ utf8_from s j) 0 (length s)
    (λ j _ l q r.
    let n = ltb-true (get_or s j 0) 0x80 (both (ltb (get_or s j 0) 0x80) true q).0 in
    r ∙ over-scalar s j (omega arith) (ascii-scalar s j (omega arith)))
    (sym e ∙ t) refl
    ∙ ap is_some (decode-end s (0 + length s) (omega arith)))
