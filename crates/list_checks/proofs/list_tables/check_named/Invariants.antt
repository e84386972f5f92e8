-- The entries from i on are left.
use Rattle.std.proofs.Common.{ℕ, ◌+◌}
use Rattle.answers.proofs.Loops.{Remaining}
use Rattle.schema.specs.Tables.{start_of}
use Rattle.checks.specs.Image.{image_of}
use Rattle.list_checks.specs.ListTables.{named_checks}
use Rattle.list_checks.proofs.list_tables.check_named.Given as goal

abbrev pub invariant-loop-i : goal.invariant-loop-i
invariant-loop-i g l =
    let m = image_of l.e in
    let named = λ (i : ℕ). g.N.Named.Key.number (g.N.Naming.named (g.N.Stored.at l.e.pack.bytes.now (start_of l.e.starts.now.firsts l.table + i))) in
    Remaining (named_checks l.table g.N.Naming.field g.N.Named.Row.Row.TABLE named m) l.i (m.rows l.table)
