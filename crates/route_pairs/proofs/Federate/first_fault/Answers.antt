-- Where there is no route, no record is at fault.
use Rattle.std.proofs.Common.{arith}
use Rattle.route_pairs.specs.RouteOrder.{text_of}
use Rattle.route_pairs.proofs.FirstFault.{no_routes}
use Rattle.route_pairs.proofs.Federate.first_fault.Goals as goal

pub returns-in-0 : goal.returns-in-0
returns-in-0 c =
    let counted = c.count.ensures in
    no_routes (text_of c.args.self) c.args.self.pack.bytes.now (omega arith)
