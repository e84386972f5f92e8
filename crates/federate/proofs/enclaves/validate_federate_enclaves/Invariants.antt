-- The enclaves before the record where the walk stands pass, and their links are summed.
use Rattle.std.proofs.Common.{◌≡◌}
use Rattle.federate.proofs.EnclaveLaws.{Before}
use Rattle.federate.proofs.enclaves.validate_federate_enclaves.Given as goal

abbrev pub invariant-loop-enclave : goal.invariant-loop-enclave
invariant-loop-enclave l =
    record {
      same : l.enclave-iterator.pack ≡ l.federate.pack;
      known : Before l.federate.pack.bytes.now l.federate.texts.batch.now l.federate.texts.house.now l.start l.enclave-iterator.next l.links;
    }
