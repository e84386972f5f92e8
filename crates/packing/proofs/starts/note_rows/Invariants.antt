-- The starts of the tables below t are noted.
use Rattle.std.proofs.Common.{◌-◌}
use Rattle.schema.specs.Records.{records_of}
use Rattle.packing.proofs.TableStarts.{Noted}
use Rattle.packing.proofs.starts.note_rows.Given as goal

abbrev pub invariant-loop-table : goal.invariant-loop-table
invariant-loop-table l = Noted l.p l.rows l.firsts l.t l.k

abbrev pub decreases-loop-table : goal.decreases-loop-table
decreases-loop-table l = records_of l.p - l.k
