-- The triggers of the rows from i on are left.
use Rattle.answers.proofs.Loops.{Remaining}
use Rattle.checks.specs.Image.{image_of, stored_at}
use Rattle.list_checks.specs.ListTables.{trigger_checks}
use Rattle.list_checks.proofs.level_lists.check_triggers.Given as goal

abbrev pub invariant-loop-i : goal.invariant-loop-i
invariant-loop-i g l =
    let m = image_of l.e in
    let row = stored_at g.R.Stored.at l.e.pack.bytes.now l.e.starts.now.firsts g.R.Row.TABLE in
    Remaining (trigger_checks (λ i. g.R.Triggering.triggers (row i)) m) l.i (m.rows g.R.Row.TABLE)
