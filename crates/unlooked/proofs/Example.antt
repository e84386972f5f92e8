-- The packs of the example differ only in what is not looked at: by computation, byte by byte. Assumes nothing.
use Prim.Native.Nat.{ℕ, zero, suc, ◌*◌, ◌<◌, ◌≤◌}
use mathlib.Core.Bool.{Bool, true, ◌&&◌}
use mathlib.Core.Path.{◌≡◌, refl, ◌∙◌, sym, ap, fun_ext}
use mathlib.Core.List.{List}
use native.Mathlib.Decide.{dec_le}
use native.Mathlib.Omega.{arith}
use lib.Dec.{ltb, eqb}
use lib.ListN.{length, get_or-eq_default}
use borrow.Author.Tests.{eqb-true}
use Rattle.identity.proofs.Tests.{cases, both}
use Rattle.identity.specs.Utf8.{allowed, scalar_at, decode_after}
use Rattle.answers.specs.Checks.{first, run}
use Rattle.schema.specs.Number.{number}
use Rattle.schema.specs.Layout.{layouts}
use Rattle.packing.specs.declared.PackKind.{PackKind}
use Rattle.packing.specs.declared.PackKind.TheVariants.{Enclave, Federate}
use Rattle.packing.specs.Clean.{zeros, clean}
use Rattle.packing.specs.Packing.{identity_checks, record_checks, packing_checks}
use Rattle.unlooked.specs.Packs.{record_of, unlooked, looked_by, looked, DifferUnlooked}
use Rattle.unlooked.specs.Example.{bytes_of, rows, deadline, station, line_of, StationsDiffer, LinesDiffer}

-- a test holds of every number below n
unfoldable all_below : (ℕ → Bool) → ℕ → Bool
all_below f zero = true
all_below f (suc n) = f n && all_below f n

all_at : (f : ℕ → Bool) (n k : ℕ) → all_below f n ≡ true → k < n → f k ≡ true
unfolding all_below
all_at f zero k h l = absurd (omega arith)
all_at f (suc n) k h l =
    let b = both (f n) _ h in
    elim (dec_le n k) [ yes g ↦ (let x : k ≡ n = omega arith in rw x b.0) | no g ↦ all_at f n k b.1 (omega arith) ]

module _ (kind : PackKind) (p q : List ℕ) (records : ℕ) where
  same_at : ℕ → ℕ → Bool
  same_at n j = eqb (looked kind q n j) (looked kind p n j)

  -- every byte of the records is looked at as the same
  same_bytes : Bool
  same_bytes = all_below (λ n. all_below (same_at n) 64) records

past : (p : List ℕ) (n : ℕ) → length p ≤ n * 64 → record_of p n ≡ (λ j. 0)
past p n l = fun_ext (λ j. cases (ltb j 64) (λ e. rw e (get_or-eq_default p 0 (omega arith))) (λ e. rw e refl))

differ_if :
    (kind : PackKind) (p q : List ℕ) (records : ℕ) → length q ≡ length p → length p ≤ records * 64 → same_bytes kind p q records ≡ true
    → DifferUnlooked kind p q
unfolding same_bytes same_at
differ_if kind p q records e f h = (e, bytes)
  where
    bytes : (n j : ℕ) → j < 64 → looked kind q n j ≡ looked kind p n j
    bytes n j l =
        elim (dec_le records n) [
          | yes g ↦ ap (λ r. looked_by (unlooked kind) r j) (past q n (omega arith) ∙ sym (past p n (omega arith)))
          | no g ↦ (
              let whole = all_at (λ m. all_below (same_at kind p q records m) 64) records n h (omega arith) in
              eqb-true (looked kind q n j) (looked kind p n j) (all_at (same_at kind p q records n) 64 j whole l)
              )
        ]

pub stations_differ : StationsDiffer
unfolding all_below same_at same_bytes bytes_of rows deadline station
    first run packing_checks record_checks identity_checks clean zeros layouts number allowed scalar_at decode_after
stations_differ = (refl, refl, differ_if Enclave (station 0 0) (station 7 1) 9 refl (omega arith) refl)

pub lines_differ : LinesDiffer
unfolding all_below same_at same_bytes bytes_of rows deadline line_of
    first run packing_checks record_checks identity_checks clean zeros layouts number allowed scalar_at decode_after
lines_differ = (refl, refl, differ_if Federate (line_of 0 0) (line_of 7 1) 10 refl (omega arith) refl)
