-- The fold's least row is the scan's.
use Rattle.std.proofs.Common.{List, ℕ, length, rules, arith}
use borrow.Author.Tests.{tests}
use Rattle.std.specs.Prelude.{None}
use Rattle.std.proofs.lemmas.Iterator.{YieldsList-from_range}
use Rattle.std.proofs.lemmas.Iterator.Consumers.{fold_from_yields_List}
use Rattle.route_pairs.specs.RouteOrder.{text_of}
use Rattle.route_pairs.proofs.Scan.{lesser, scan_fold}
use Rattle.route_pairs.proofs.Federate.least_misfit.Goals as goal

pub returns : goal.returns
returns c =
    let p : List ℕ = c.args.self.pack.bytes.now in
    let rows : List ℕ = c.args.rows.now in
    scan_fold (text_of c.args.self) p rows c.requires c.fold.result
    (fold_from_yields_List _ (lesser (text_of c.args.self) p rows) None c.fold.result c.fold.ensures.ran (YieldsList-from_range 0 (length rows) (length rows) (cc) (omega arith)) (λ a x b q k. search (rules, tests)))
