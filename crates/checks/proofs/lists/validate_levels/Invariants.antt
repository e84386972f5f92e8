-- The entries from k on are left, and the reaction and level of the one before is at hand.
use Rattle.std.proofs.Common.{◌≡◌, ◌+◌, ◌-◌}
use Rattle.answers.proofs.Loops.{Remaining}
use Rattle.checks.specs.Image.{image_of, stored_at}
use Rattle.checks.specs.Lists.{listed_checks}
use Rattle.checks.proofs.lists.validate_levels.Given as goal

abbrev pub invariant-loop-k : goal.invariant-loop-k
invariant-loop-k g l =
    let m = image_of l.e in
    let entries = stored_at g.L.Stored.at l.e.pack.bytes.now l.e.starts.now.firsts in
    Remaining (listed_checks m.rows m.reactions (g.L.Listed.own m.rows) g.L.Listed.level entries l.table l.range.start) l.k l.range.len
    × (l.before ≡ g.L.Listed.level (entries l.table (l.range.start + (l.k - 1))))
