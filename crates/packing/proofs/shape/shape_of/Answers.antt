-- The shapes, table by table, are those of the layouts.
use Rattle.std.proofs.Common.{◌∙◌, sym, ap, ◌<◌, ◌≤◌, length, arith, []}
use Rattle.std.proofs.Math.ListN.{get_or-eq_default}
use Rattle.std.proofs.lemmas.List.{get_or-map}
use Rattle.schema.specs.Layout.{plain, layouts}
use Rattle.packing.specs.Shape.{shape, shape_of, limits}
use Rattle.packing.proofs.shape.shape_of.Goals as goal

pub returns-then-t-lt-TABLES : goal.returns-then-t-lt-TABLES
unfolding layouts limits
returns-then-t-lt-TABLES c =
    let h : c.from-t.result < length layouts = c.if-t-lt-TABLES.true in
    get_or-map shape layouts c.from-t.result (plain []) _ h ∙ ap shape_of c.from-t.ensures

pub returns : goal.returns
unfolding layouts limits
returns c =
    let h : length layouts ≤ c.args.table = omega arith in
    sym (ap shape (get_or-eq_default layouts (plain []) h))
