-- The bytes that are kept lie in the room.
use Rattle.std.proofs.Common.{◌≤◌, length}
use Rattle.replay.proofs.steps.keep_steps.Given as goal

abbrev pub invariant-loop : goal.invariant-loop
invariant-loop g l = record { inside : l.len ≤ length l.room }
