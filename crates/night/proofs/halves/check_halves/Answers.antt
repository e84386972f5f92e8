-- The first route without its other half decides.
use Rattle.schema.specs.Records.{records_of}
use Rattle.route_pairs.specs.RouteOrder.{text_of}
use Rattle.route_pairs.proofs.FirstFault.{fault_first}
use Rattle.night.specs.Halves.{unpaired_record_checks}
use Rattle.night.proofs.HalfLaws.{unpaired_refused}
use Rattle.night.proofs.halves.check_halves.Goals as goal

pub returns-in-Some : goal.returns-in-Some
returns-in-Some c =
    let p = c.args.federate.pack.bytes.now in
    let text = text_of c.args.federate in
    let found = c.in-Some.ensures in
    let route = c.at-route.ensures in
    rw route (fault_first (unpaired_record_checks text p) c.in-Some.n (records_of p) found.1 _ found.0 (unpaired_refused text p c.in-Some.n (found.1.stops found.0)))
