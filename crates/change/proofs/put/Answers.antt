-- The record's 64 bytes are the row's, and the others stay.
use Rattle.std.proofs.Common.{◌≡◌, ◌+◌, ◌-◌, ◌*◌, drop-drop, arith, refl}
use Rattle.change.specs.Change.{changed}
use Rattle.change.proofs.put.Goals as goal

pub returns : goal.returns
unfolding changed
returns c =
    let n = c.args.number in
    let k : n * 64 + 64 - n * 64 ≡ 64 = omega arith in
    rw (k, c.copy_from_slice.ensures.after, drop-drop) refl
