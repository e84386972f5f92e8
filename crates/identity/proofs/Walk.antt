-- The walk over a text of any scalars, or of those that may stand in an identity. Assumes nothing.
use Prim.Native.Nat.{ℕ, ◌+◌, ◌<◌, ◌≤◌}
use mathlib.Core.Bool.{Bool, true, false, not, ◌&&◌, ◌||◌, true≢false}
use mathlib.Core.Path.{◌≡◌, refl, sym}
use mathlib.Core.List.{List}
use native.Mathlib.Omega.{arith}
use lib.Dec.{eqb}
use lib.ListN.{length}
use Rattle.std.specs.Prelude.{None}
use Rattle.identity.specs.Utf8.{scalar, scalar_at}
use Rattle.identity.specs.Scan.{refused, Stepped, rest_from}
use Rattle.identity.proofs.Steps.{Kept, kept_laws}
use Rattle.identity.proofs.Scalar.{next_fits}
use Rattle.identity.proofs.Utf8.{utf8-none, utf8-scalar, utf8-end}
use Rattle.identity.proofs.Valid.{id-none, id-refused, id-scalar, id-end}

pub rest-none : (any : Bool) (s : List ℕ) (i : ℕ) → i < length s → None ≡ scalar_at s i → rest_from any s i ≡ false
rest-none true s i h e = utf8-none s i h e
rest-none false s i h e = id-none s i h e

-- a step over the scalar at i; r says whether no identity has it there
pub rest-refused : (any : Bool) (s : List ℕ) (i : ℕ) {v w : ℕ} (r : Bool) → i < length s → scalar v w ≡ scalar_at s i → r ≡ refused v (eqb i 0 || eqb (i + w) (length s)) → not any && r ≡ true → rest_from any s i ≡ false
rest-refused true s i r h e g t = absurd (true≢false (sym t))
rest-refused false s i r h e g t = id-refused s i h r e g t

pub rest-scalar : (any : Bool) (s : List ℕ) (i : ℕ) {v w : ℕ} (r : Bool) → i < length s → scalar v w ≡ scalar_at s i → r ≡ refused v (eqb i 0 || eqb (i + w) (length s)) → not any && r ≡ false → Stepped (rest_from any s) (length s) i w
rest-scalar true s i r h e g t = utf8-scalar s i h e
rest-scalar false s i r h e g t = id-scalar s i h r e g t

pub ruleset step_laws = (next_fits, rest-none)

pub walk-start : (any : Bool) (s : List ℕ) → Kept (rest_from any s 0) (rest_from any s) (length s) 0
walk-start any s = record { inside = omega arith; same = refl }

pub walk-end : (any : Bool) (s : List ℕ) (i : ℕ) → Kept (rest_from any s 0) (rest_from any s) (length s) i → length s ≤ i → any || not (eqb i 0) ≡ rest_from any s 0
walk-end true s i p h = utf8-end s i p h
walk-end false s i p h = id-end s i p h

pub ruleset walk_laws = (walk-start, walk-end, kept_laws)
