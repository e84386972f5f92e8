-- The chain counts the records that the definition counts.
use Rattle.std.proofs.Common.{Bool, ◌∙◌, ◌&&◌, rules, arith}
use borrow.Author.Tests.{tests}
use Rattle.std.specs.Bool.{then_some}
use Rattle.std.proofs.lemmas.Iterator.{YieldsList-from_range}
use Rattle.std.proofs.lemmas.Iterator.Consumers.{YieldsList-at, YieldsList-from_filter, YieldsList-from_filter_map, count_from_yields_List}
use Rattle.identity.specs.Order.{compared}
use Rattle.schema.specs.declared.rows.RouteImage.{RouteImage}
use Rattle.schema.specs.Rows.{route_at}
use Rattle.schema.specs.Records.{is_of, records_of}
use Rattle.checks.specs.Identities.{is_equal}
use Rattle.route_pairs.specs.RouteOrder.{text_of}
use Rattle.route_pairs.proofs.Counts.{counted_kept}
use Rattle.route_pairs.proofs.Federate.halves.Goals as goal

pub returns : goal.returns
returns g c test answers =
    let p = c.args.self.pack.bytes.now in
    let same : RouteImage → Bool = λ r. is_equal (compared (text_of c.args.self r.boundary) (text_of c.args.self c.args.route.boundary)) && test r in
    count_from_yields_List c.filter.result _ c.count.ensures.ran
    (YieldsList-from_filter _ same
    (YieldsList-at c.filter.ensures.source
    (YieldsList-from_filter_map _ (λ k. then_some (is_of p 23 k) (route_at p k)) (YieldsList-from_range 0 (records_of p) (records_of p) (cc) (omega arith)) c.filter_map.ensures.closure (λ x r q k. search (rules, tests))))
    c.filter.ensures.closure (λ x b q k. search (rules, tests)))
    ∙ counted_kept (is_of p 23) (route_at p) same (records_of p)
