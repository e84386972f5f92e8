-- The least misfit of the sorted routes is the first at fault.
use Rattle.route_pairs.specs.RouteOrder.{text_of}
use Rattle.route_pairs.proofs.Rows.{sorted_back, rows_inside}
use Rattle.route_pairs.proofs.FirstFault.{fault_found}
use Rattle.route_pairs.proofs.Federate.first_fault_within.Goals as goal

pub least_misfit-requires : goal.least_misfit-requires
least_misfit-requires g c =
    let p = c.args.self.pack.bytes.now in
    let back = sorted_back p c.list.new.rows.items c.deref_mut.result.now c.sort.new.rows c.deref.result.now c.list.ensures c.deref_mut.ensures.value c.sort.ensures.permutation c.deref.ensures.0 in
    rw back.0 (rows_inside p c.sort.new.rows back.1)

pub returns : goal.returns
returns g c =
    let p = c.args.self.pack.bytes.now in
    let back = sorted_back p c.list.new.rows.items c.deref_mut.result.now c.sort.new.rows c.deref.result.now c.list.ensures c.deref_mut.ensures.value c.sort.ensures.permutation c.deref.ensures.0 in
    fault_found (text_of c.args.self) p c.sort.new.rows back.1 c.sort.ensures.sorted c.least_misfit.result (rw back.0 at c.least_misfit.ensures)
