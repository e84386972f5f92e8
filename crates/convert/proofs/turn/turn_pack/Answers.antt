-- Record by record, until all are written.
use Rattle.std.proofs.Common.{◌≡◌, ◌+◌, ◌*◌, ◌-◌, ◌/◌, length, arith}
use Rattle.schema.specs.Bytes.{IsRecord}
use Rattle.convert.proofs.TurnedPack.{through_step, through_end}
use Rattle.convert.proofs.turn.turn_pack.Goals as goal

pub loop-n-preserved : goal.loop-n-preserved
loop-n-preserved c =
    let e : c.loop-n.n * 64 + 64 - c.loop-n.n * 64 ≡ 64 = omega arith in
    let there : IsRecord c.args.pack.bytes.now c.loop-n.n = omega arith in
    rw e (through_step c.loop-n.invariant there c.requires c.turn_record.ensures)

pub returns : goal.returns
returns c =
    let all : c.loop-n.n ≡ length c.args.pack.bytes.now / 64 = omega arith in
    through_end c.loop-n.invariant all c.args.pack.whole c.requires
