-- The records before n are written.
use Rattle.convert.proofs.TurnedPack.{Through}
use Rattle.convert.proofs.turn.turn_pack.Given as goal

abbrev pub invariant-loop-n : goal.invariant-loop-n
invariant-loop-n l = Through l.pack.bytes.now l.n l.initial.out l.out
