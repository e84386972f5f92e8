-- The record is turned round below byte j.
use Rattle.std.proofs.Common.{◌-◌}
use Rattle.convert.proofs.TurnedRecord.{Turning}
use Rattle.convert.proofs.turn.turn_record.Given as goal

abbrev pub invariant-loop-j : goal.invariant-loop-j
invariant-loop-j l = Turning l.item.bytes.now l.item.number l.out l.j l.longs

abbrev pub decreases-loop-j : goal.decreases-loop-j
decreases-loop-j l = l.used - l.j
