-- The ports from place k on are left.
use Rattle.answers.proofs.Loops.{Remaining}
use Rattle.checks.specs.Image.{image_of}
use Rattle.rising.specs.Rising.{port_of, port_rising}
use Rattle.rising.proofs.levels.check_effects.Given as goal

abbrev pub invariant-loop-k : goal.invariant-loop-k
invariant-loop-k l =
    let m = image_of l.e in
    Remaining (λ i. port_rising m l.reaction.0 (port_of m l.reaction.0 i)) l.k l.len
