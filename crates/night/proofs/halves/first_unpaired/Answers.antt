-- Where there is no route, none is without its other half.
use Rattle.std.proofs.Common.{arith}
use Rattle.route_pairs.specs.RouteOrder.{text_of}
use Rattle.night.proofs.HalfLaws.{no_routes}
use Rattle.night.proofs.halves.first_unpaired.Goals as goal

pub returns-in-0 : goal.returns-in-0
returns-in-0 c =
    let counted = c.count.ensures in
    no_routes (text_of c.args.federate) c.args.federate.pack.bytes.now (omega arith)
