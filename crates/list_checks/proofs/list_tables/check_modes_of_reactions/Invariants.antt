-- The enabled modes of the reactions from i on are left.
use Rattle.answers.proofs.Loops.{Remaining}
use Rattle.checks.specs.Image.{image_of}
use Rattle.list_checks.specs.ListTables.{enabled_modes_checks}
use Rattle.list_checks.proofs.list_tables.check_modes_of_reactions.Given as goal

abbrev pub invariant-loop-i : goal.invariant-loop-i
invariant-loop-i l = let m = image_of l.e in Remaining (enabled_modes_checks m) l.i (m.rows 5)
