-- What each closure tests of a route.
use Rattle.std.proofs.Common.{rules}
use borrow.Author.Tests.{tests}
use Rattle.answers.specs.Checks.{first}
use Rattle.route_pairs.specs.RoutePairs.{other_domain, other_delay}
use Rattle.route_pairs.proofs.Federate.check_pair.Goals as goal

pub returns-in_err-check_alike : goal.returns-in_err-check_alike
unfolding first
returns-in_err-check_alike c =
    let domain = c.check_alike.ensures (other_domain c.args.route) (λ x b k. search (rules, tests)) in
    search rules

pub returns : goal.returns
unfolding first
returns c =
    let domain = c.check_alike.ensures (other_domain c.args.route) (λ x b k. search (rules, tests)) in
    let delay = c.check_alike-2.ensures (other_delay c.args.route) (λ x b k. search (rules, tests)) in
    search rules
