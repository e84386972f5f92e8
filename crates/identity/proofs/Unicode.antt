-- How many code points the two sets have, and which of them printable ASCII characters are not in. Assumes nothing.
use Prim.Native.Nat.{ℕ, suc, ◌+◌, ◌-◌}
use mathlib.Core.Bool.{true, false}
use mathlib.Core.Path.{◌≡◌, refl}
use mathlib.Core.List.{List, [], ◌∷◌}
use native.Mathlib.Omega.{arith}
use Rattle.identity.specs.Unicode.{controls, white_spaces, control, white_space}
use Rattle.identity.specs.Within.{within}
use Rattle.identity.specs.Scan.{printable}
use Rattle.identity.proofs.Tests.{within-true, within-below, within-above}

abbrev size : List (ℕ × ℕ) → ℕ
size [] = 0
size ((low, high) ∷ ranges) = suc (high - low) + size ranges

pub sixty-five-controls : size controls ≡ 65
sixty-five-controls = refl

pub twenty-five-spaces : size white_spaces ≡ 25
twenty-five-spaces = refl

pub printable-no-control : (v : ℕ) → printable v ≡ true → control v ≡ false
unfolding control
printable-no-control v e =
    let h = within-true 0x20 0x7E v e in
    rw (within-above 0x0000 0x001F v (omega arith), within-below 0x007F 0x009F v (omega arith))

pub visible-no-space : (v : ℕ) → within 0x21 0x7E v ≡ true → white_space v ≡ false
unfolding white_space
visible-no-space v e =
    let h = within-true 0x21 0x7E v e in
    rw (
      within-above 0x0009 0x000D v (omega arith),
      within-above 0x0020 0x0020 v (omega arith),
      within-below 0x0085 0x0085 v (omega arith),
      within-below 0x00A0 0x00A0 v (omega arith),
      within-below 0x1680 0x1680 v (omega arith),
      within-below 0x2000 0x200A v (omega arith),
      within-below 0x2028 0x2029 v (omega arith),
      within-below 0x202F 0x202F v (omega arith),
      within-below 0x205F 0x205F v (omega arith),
      within-below 0x3000 0x3000 v (omega arith),
    )
