-- The run after a record is passed over.
use Rattle.std.proofs.Common.{rules, ◌≡◌, ◌∙◌, ◌+◌}
use Rattle.packing.proofs.Runs.{run_passed}
use Rattle.packing.proofs.rules.check_records.Goals as goal

pub loop-item-preserved-then-shape-eq0 : goal.loop-item-preserved-then-shape-eq0
loop-item-preserved-then-shape-eq0 c =
    let w = c.in-Some.ensures.steps in
    let bytes = w.yields.0 ∙ c.loop-item.invariant.same_pack in
    let item = rw (bytes, w.yields.1) at c.table-table.ensures in
    let place : c.next.new.self.place ≡ c.loop-item.walker.place + 1 = search rules in
    let run = rw c.records.ensures at c.past_clean.ensures in
    record {
      same_pack = search rules;
      inside = search rules;
      left = run_passed _ _ _ _ c.loop-item.walker.place _ _ _ run c.loop-item.invariant.left place (search rules) item (search rules) (search rules);
    }
