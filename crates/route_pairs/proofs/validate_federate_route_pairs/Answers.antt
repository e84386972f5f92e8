-- The first route at fault decides.
use Rattle.identity.specs.Text.{identity_text}
use Rattle.schema.specs.Records.{records_of}
use Rattle.route_pairs.specs.RoutePairs.{route_record_checks}
use Rattle.route_pairs.proofs.FirstFault.{fault_first}
use Rattle.route_pairs.proofs.validate_federate_route_pairs.Goals as goal

pub returns-in-Some : goal.returns-in-Some
returns-in-Some c =
    let p = c.args.federate.pack.bytes.now in
    let found = c.in-Some.ensures in
    fault_first (route_record_checks (identity_text c.args.federate.texts.batch.now c.args.federate.texts.house.now) p) c.in-Some.n (records_of p) found.1 c.check_record.result found.0 c.check_record.ensures
