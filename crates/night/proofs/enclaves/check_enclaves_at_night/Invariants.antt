-- The records before the one where the walk stands pass.
use Rattle.std.proofs.Common.{◌≡◌}
use Rattle.answers.proofs.Loops.{Remaining}
use Rattle.schema.specs.Records.{records_of}
use Rattle.night.proofs.EnclaveLaws.{at_record}
use Rattle.night.proofs.enclaves.check_enclaves_at_night.Given as goal

abbrev pub invariant-loop-own : goal.invariant-loop-own
invariant-loop-own l =
    let p = l.federate.pack.bytes.now in
    record {
      same : l.own-iterator.pack ≡ l.federate.pack;
      left : Remaining (at_record p l.federate.texts.batch.now l.federate.texts.house.now) l.own-iterator.next (records_of p);
    }
