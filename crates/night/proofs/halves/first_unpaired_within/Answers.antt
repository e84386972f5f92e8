-- The least row alone of the sorted routes is the first without its other half.
use Rattle.route_pairs.proofs.Rows.{sorted_back}
use Rattle.night.proofs.halves.first_unpaired_within.Goals as goal

pub least_alone-requires : goal.least_alone-requires
least_alone-requires g c =
    let p = c.args.federate.pack.bytes.now in
    let back = sorted_back p c.list.new.rows.items c.deref_mut.result.now c.sort.new.rows c.deref.result.now c.list.ensures c.deref_mut.ensures.value c.sort.ensures.permutation c.deref.ensures.0 in
    record { pairs = c.requires.pairs; permuted = rw back.0 back.1; sorted = rw back.0 c.sort.ensures.sorted }
