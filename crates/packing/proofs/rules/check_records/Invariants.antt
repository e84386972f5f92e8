-- The records before the walker's place pass.
use Rattle.std.proofs.Common.{◌≡◌, ◌-◌, ◌/◌, ◌≤◌, length}
use Rattle.answers.proofs.Loops.{Remaining}
use Rattle.packing.specs.Packing.{record_checks}
use Rattle.packing.proofs.rules.check_records.Given as goal

abbrev pub invariant-loop-item : goal.invariant-loop-item
invariant-loop-item l =
    let p = l.pack.bytes.now in
    let n = length p / 64 in
    record {
      same_pack : l.walker.pack ≡ l.pack.bytes;
      inside : l.walker.place ≤ n;
      left : Remaining (record_checks l.kind p l.texts.batch.now l.texts.house.now) l.walker.place n;
    }

abbrev pub decreases-loop-item : goal.decreases-loop-item
decreases-loop-item l = length l.pack.bytes.now / 64 - l.walker.place
