-- The records of the table before record n are counted, and are no more than the records.
use Rattle.std.proofs.Common.{◌≡◌, ◌≤◌}
use Rattle.schema.specs.Records.{is_of, count_below}
use Rattle.schema.proofs.lent.Pack.count_of.Given as goal

abbrev pub invariant-loop-n : goal.invariant-loop-n
invariant-loop-n l = (l.found ≡ count_below (is_of l.self.bytes.now l.table) l.n) × (l.found ≤ l.n)
