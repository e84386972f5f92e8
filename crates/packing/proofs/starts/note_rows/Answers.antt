-- The starts are noted from row to row.
use Rattle.std.proofs.Common.{◌≡◌, ◌∙◌, ◌+◌, rules, arith}
use Rattle.std.specs.Prelude.{min}
use Rattle.schema.specs.Tables.{tables}
use Rattle.packing.proofs.TableStarts.{noted_none, noted_next, noted_all, row_small, row_later}
use Rattle.packing.proofs.starts.note_rows.Goals as goal

pub loop-table-init : goal.loop-table-init
loop-table-init c = noted_none _ _ _ c.told-firsts

pub overflow_add-k : goal.overflow_add-k
overflow_add-k c =
    let small = row_small c.args.p.now c.loop-table.k c.in-Some.table c.in-Some.ensures in
    omega (arith, small)

pub loop-table-smaller : goal.loop-table-smaller
loop-table-smaller c =
    rw c.first_reaching-k.ensures (row_later c.args.p.now c.loop-table.k c.in-Some.table c.in-Some.ensures (c.min-end.result + 1))

pub loop-table-preserved : goal.loop-table-preserved
loop-table-preserved c =
    let end : c.min-end.result + 1 ≡ min c.in-Some.table tables + 1 = search rules in
    rw c.note.ensures (noted_next _ _ _ c.in-Some.ensures _ _ _ _ _ c.loop-table.invariant end c.first_reaching-k.ensures)

pub returns : goal.returns
returns c = c.note-2.ensures ∙ noted_all _ _ _ _ _ c.loop-table.invariant c.in_default.ensures
