-- The port that is read is one of the reaction's, so it is there; and where its reactions are refused, the reaction is.
use Rattle.std.proofs.Common.{◌≡◌, ◌<◌, ◌+◌, ◌∙◌, sym, ap, arith}
use Rattle.std.specs.Prelude.{Err}
use Rattle.answers.specs.Checks.{first}
use Rattle.checks.specs.Image.{image_of}
use Rattle.rising.specs.Rising.{effects_of, port_of, reaction_rising}
use Rattle.rising.proofs.Settled.{settled}
use Rattle.rising.proofs.LevelLaws.{effects_refused}
use Rattle.rising.proofs.levels.check_effects.Goals as goal

pub check_port-requires-clause-there : goal.check_port-requires-clause-there
check_port-requires-clause-there c =
    let m = image_of c.args.e.now in
    let e : c.row_at.result.holds.0 ≡ port_of m c.args.reaction.0 c.loop-k.k = ap (λ x. x.holds.0) c.row_at.ensures ∙ ap (λ row. m.indexes 10 (row.effect_ports.start + c.loop-k.k)) c.row-row.ensures in
    let len = ap (λ row. row.effect_ports.len) c.row-row.ensures in
    let inside : c.loop-k.k < effects_of m c.args.reaction.0 = omega (arith, len, c.loop-k-test.true) in
    rw e ((settled m c.requires.accepted).port_there c.args.reaction.0 c.loop-k.k c.requires.there inside)

pub returns-in_err-check_port : goal.returns-in_err-check_port
returns-in_err-check_port c =
    let m = image_of c.args.e.now in
    let e : c.row_at.result.holds.0 ≡ port_of m c.args.reaction.0 c.loop-k.k = ap (λ x. x.holds.0) c.row_at.ensures ∙ ap (λ row. m.indexes 10 (row.effect_ports.start + c.loop-k.k)) c.row-row.ensures in
    let len = ap (λ row. row.effect_ports.len) c.row-row.ensures in
    let k : first (reaction_rising m c.args.reaction.0) ≡ Err c.in_err-check_port.field-0.0 = effects_refused m c.args.reaction.0 c.loop-k.invariant len c.loop-k-test.true (rw e at (sym c.in_err-check_port.ensures)) in
    grind (arith, k)
