-- The measure is the levels still to climb: they fall from a reaction to its ports, and from a port to its reactions. In each loop, what was walked so far.
use Rattle.checks.specs.Image.{image_of}
use Rattle.rising.specs.Walk.{FromReaction, FromPort}
use Rattle.rising.proofs.Climb.{climb, port_climb}
use Rattle.rising.proofs.walk.+walk.Given as goal

abbrev pub decreases-by_reaction : goal.decreases-by_reaction
decreases-by_reaction l = climb (image_of l.e.now) l.reaction.0

abbrev pub decreases-by_port : goal.decreases-by_port
decreases-by_port l = port_climb (image_of l.e.now) l.port.0

abbrev pub invariant-by_reaction-loop-k : goal.invariant-by_reaction-loop-k
invariant-by_reaction-loop-k l = FromReaction (image_of l.e) l.kind l.fn.reaction.0 l.k l.initial.marks l.marks l.initial.ports l.ports

abbrev pub invariant-by_port-loop-j : goal.invariant-by_port-loop-j
invariant-by_port-loop-j l = FromPort (image_of l.e) l.kind l.fn.port.0 l.j l.initial.marks l.marks l.initial.ports l.ports
