-- The starts rise.
use Rattle.packing.proofs.TableStarts.{starts_rising}
use Rattle.packing.proofs.starts.note_starts.Goals as goal

pub invariant_of-starts : goal.invariant_of-starts
invariant_of-starts c = record { rising = starts_rising _ _ _ c.note_rows.ensures }
