-- The search from record k finds the same.
use Rattle.std.proofs.Common.{◌≡◌, ◌-◌}
use Rattle.schema.specs.Records.{records_of}
use Rattle.packing.specs.Starts.{first_reaching}
use Rattle.packing.proofs.starts.first_reaching.Given as goal

abbrev pub invariant-loop-k : goal.invariant-loop-k
invariant-loop-k l = first_reaching l.p l.t l.from (records_of l.p) ≡ first_reaching l.p l.t l.k (records_of l.p)

abbrev pub decreases-loop-k : goal.decreases-loop-k
decreases-loop-k l = records_of l.p - l.k
