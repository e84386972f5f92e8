-- The routes before record n are listed.
use Rattle.std.proofs.Common.{◌≡◌}
use Rattle.route_pairs.specs.RouteOrder.{routes_below}
use Rattle.route_pairs.proofs.Federate.list.Given as goal

abbrev pub invariant-loop-n : goal.invariant-loop-n
invariant-loop-n g l = l.rows.items ≡ routes_below l.self.pack.bytes.now l.n
