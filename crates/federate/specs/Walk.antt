-- How the enclaves of a federate pack are gone through. Assumes nothing.
use Rattle.std.specs.Prelude.{◌<◌, ◌≤◌, ◌≡◌, Option, MatchOption}
use Rattle.schema.specs.Records.{records_of}
use Rattle.federate.specs.declared.records.Enclaves.{Enclaves}
use Rattle.federate.specs.declared.records.FederateEnclave.{FederateEnclave}
use Rattle.federate.specs.Records.{enclave_end}

-- from w the enclave where w stands is yielded, and v stands where it ends; or nothing, at the pack's end
pub record Walks (w : Enclaves) (r : Option FederateEnclave) (v : Enclaves) : Type 0 where
  pub yields : MatchOption r (records_of w.pack.bytes.now ≤ w.next) (λ e. (w.next < records_of w.pack.bytes.now) × (e.pack ≡ w.pack) × (e.number ≡ w.next) × (v.next ≡ enclave_end w.pack.bytes.now w.next))
  pub same_pack : v.pack ≡ w.pack
