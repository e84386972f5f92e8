-- The marked items before item i are counted, and are no more than i.
use Rattle.std.proofs.Common.{◌≡◌, ◌≤◌}
use Rattle.schema.specs.Records.{count_below}
use Rattle.rising.specs.Marks.{is_marked}
use Rattle.rising.proofs.marks.Marks.count.Given as goal

abbrev pub invariant-loop-i : goal.invariant-loop-i
invariant-loop-i l = (l.found ≡ count_below (is_marked l.self l.marks) l.i) × (l.found ≤ l.i)
