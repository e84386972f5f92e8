-- The bits, table by table, are those of the layouts.
use Rattle.std.proofs.Common.{◌∙◌, sym, ap, ◌<◌, ◌≤◌, ℕ, length, arith, []}
use Rattle.std.proofs.Math.ListN.{get_or-eq_default}
use Rattle.std.proofs.lemmas.List.{get_or-map}
use Rattle.schema.specs.Layout.{Layout, plain, layouts}
use Rattle.packing.specs.Shape.{layout_of}
use Rattle.convert.specs.Steps.{longs_in}
use Rattle.convert.proofs.turn.longs_of.Goals as goal

pub returns-then-t-lt-TABLES : goal.returns-then-t-lt-TABLES
unfolding layouts
returns-then-t-lt-TABLES c =
    let h : c.from-t.result < length layouts = c.if-t-lt-TABLES.true in
    get_or-map (λ (l : Layout). longs_in l.fields) layouts c.from-t.result (plain []) _ h ∙ ap (λ (t : ℕ). longs_in (layout_of t).fields) c.from-t.ensures

pub returns : goal.returns
unfolding layouts
returns c =
    let h : length layouts ≤ c.args.table = omega arith in
    sym (ap (λ (l : Layout). longs_in l.fields) (get_or-eq_default layouts (plain []) h))
