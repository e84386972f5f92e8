-- Number by number: where the next one begins a D, and where it does not.
use Rattle.std.proofs.Common.{◌≡◌, ◌+◌, ◌≤◌, rules, arith}
use Rattle.packing.specs.Shape.{layout_of, used}
use Rattle.schema.specs.Bytes.{byte_of}
use Rattle.packing.proofs.Limits.{used_most}
use Rattle.convert.proofs.TurnedRecord.{next_long, next_word, turning_step, turning_end}
use Rattle.convert.proofs.turn.turn_record.Goals as goal

pub turn_long-requires-clause-inside : goal.turn_long-requires-clause-inside
turn_long-requires-clause-inside c =
    let l = layout_of (byte_of c.args.item.bytes.now c.args.item.number 0) in
    let most = used_most (byte_of c.args.item.bytes.now c.args.item.number 0) in
    let end : c.from-used.result ≡ used l = search rules in
    let next = next_long c.loop-j.invariant.left (rw end at c.loop-j-test.true) c.if-longs-eq1.true in
    let inside : c.loop-j.j + 8 ≤ used l = next.inside in
    omega arith

pub loop-j-preserved-then-longs-eq1 : goal.loop-j-preserved-then-longs-eq1
loop-j-preserved-then-longs-eq1 c =
    let l = layout_of (byte_of c.args.item.bytes.now c.args.item.number 0) in
    let end : c.from-used.result ≡ used l = search rules in
    turning_step c.loop-j.invariant (next_long c.loop-j.invariant.left (rw end at c.loop-j-test.true) c.if-longs-eq1.true) c.turn_long.ensures

pub turn_word-requires-clause-inside : goal.turn_word-requires-clause-inside
turn_word-requires-clause-inside c =
    let l = layout_of (byte_of c.args.item.bytes.now c.args.item.number 0) in
    let most = used_most (byte_of c.args.item.bytes.now c.args.item.number 0) in
    let end : c.from-used.result ≡ used l = search rules in
    let next = next_word c.loop-j.invariant.left (rw end at c.loop-j-test.true) c.if-longs-eq1.false in
    let inside : c.loop-j.j + 4 ≤ used l = next.inside in
    omega arith

pub loop-j-preserved : goal.loop-j-preserved
loop-j-preserved c =
    let l = layout_of (byte_of c.args.item.bytes.now c.args.item.number 0) in
    let end : c.from-used.result ≡ used l = search rules in
    turning_step c.loop-j.invariant (next_word c.loop-j.invariant.left (rw end at c.loop-j-test.true) c.if-longs-eq1.false) c.turn_word.ensures

pub returns : goal.returns
returns c =
    let l = layout_of (byte_of c.args.item.bytes.now c.args.item.number 0) in
    let end : c.from-used.result ≡ used l = search rules in
    turning_end c.loop-j.invariant (rw end at c.loop-j-test.false)
