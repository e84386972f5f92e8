-- No row before the one at hand holds the mode, and each of them was counted.
use Rattle.std.proofs.Common.{◌≡◌}
use Rattle.checks.specs.Image.{image_of}
use Rattle.accepted.specs.Modes.{holds}
use Rattle.mode_owner.specs.Owner.{NoHolder}
use Rattle.mode_owner.proofs.first_holder.Given as goal

abbrev pub invariant-loop-i : goal.invariant-loop-i
invariant-loop-i l =
    record {
      counted : l.rows_read ≡ l.i;
      before : NoHolder (holds (image_of l.e) l.mode.0) l.i;
    }
