-- What std's sort says of its order, said of the order of rows.
use Rattle.std.proofs.Common.{rules}
use Rattle.route_pairs.specs.RouteOrder.{text_of, boundary_at}
use Rattle.route_pairs.proofs.Order.{sorted_rows, in_order}
use Rattle.route_pairs.proofs.Federate.sort.Goals as goal

pub returns-clause-sorted : goal.returns-clause-sorted
returns-clause-sorted c =
    sorted_rows (boundary_at (text_of c.args.self) c.args.self.pack.bytes.now) c.sort_unstable_by.new.self c.sort_unstable_by.ensures.sorted (λ a r f k. search rules)

pub returns-clause-ordered : goal.returns-clause-ordered
returns-clause-ordered c = in_order (boundary_at (text_of c.args.self) c.args.self.pack.bytes.now) _ (returns-clause-sorted c)
