-- What is written is the W's bytes, the last one first.
use Rattle.std.proofs.Common.{◌≡◌, ◌+◌, ◌-◌, ◌≤◌, length, add-zero, arith}
use Rattle.convert.proofs.BytesBack.{bytes_back, turns_put}
use Rattle.convert.proofs.turn.turn_word.Goals as goal

pub returns : goal.returns
returns c =
    let e : c.args.j + 4 - c.args.j ≡ 4 = omega arith in
    let inside : c.args.j + 4 ≤ length c.args.out.now = omega arith in
    let written : c.copy_from_slice.new.self ≡ bytes_back 4 c.args.item.bytes.now c.args.item.number c.args.j = rw add-zero (cc) in
    rw e (turns_put 4 c.args.item.bytes.now c.args.item.number c.args.j c.args.out.now c.copy_from_slice.new.self written inside)
