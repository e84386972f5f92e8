-- The routes from the one at hand on are left.
use Rattle.answers.proofs.Loops.{Remaining}
use Rattle.checks.specs.Image.{image_of}
use Rattle.night.specs.Enclaves.{domain_checks, routes_at}
use Rattle.night.proofs.enclaves.check_domains.Given as goal

abbrev pub invariant-loop-route : goal.invariant-loop-route
invariant-loop-route l =
    Remaining (domain_checks l.enclave (routes_at l.e.pack.bytes.now l.e.starts.now.firsts)) l.route ((image_of l.e).rows 23)
