-- The chain's least row is the scan's.
use Rattle.std.proofs.Common.{List, ℕ, length, rules, arith}
use borrow.Author.Tests.{tests}
use Rattle.std.proofs.lemmas.Iterator.{YieldsList-from_range, YieldsList-from_map}
use Rattle.std.proofs.lemmas.Iterator.Consumers.{YieldsList-at, YieldsList-from_filter, min_from_yields_List}
use Rattle.route_pairs.specs.RouteOrder.{text_of}
use Rattle.route_pairs.proofs.FirstFault.{at}
use Rattle.night.specs.Halves.{alone}
use Rattle.night.proofs.HalfLaws.{scan}
use Rattle.night.proofs.halves.least_alone.Goals as goal

pub returns : goal.returns
returns c =
    let p : List ℕ = c.args.federate.pack.bytes.now in
    let rows : List ℕ = c.args.rows.now in
    let text = text_of c.args.federate in
    scan text p rows c.requires.permuted c.requires.sorted c.requires.pairs c.min.result
    (min_from_yields_List c.map.result _ c.min.ensures.ran
    (YieldsList-from_map _ (at text p rows)
    (YieldsList-at c.map.ensures.source
    (YieldsList-from_filter _ (alone text p rows) (YieldsList-from_range 0 (length rows) (length rows) (cc) (omega arith)) c.filter.ensures.closure (λ x b q k. search (rules, tests))))
    c.map.ensures.closure (λ x r q k. search rules)))
