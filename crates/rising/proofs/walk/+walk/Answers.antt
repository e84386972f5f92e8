-- What each step of the walk reads is there and falls; what it marks adds to what was walked so far.
use Rattle.std.proofs.Common.{◌<◌, ◌≤◌, length, ◌∙◌, sym, ap, subst, arith}
use Rattle.checks.specs.Image.{image_of, reaction_part}
use Rattle.rising.specs.declared.marks.Marks.TheVariants.{Bits}
use Rattle.rising.specs.Rising.{triggers_of}
use Rattle.rising.proofs.MarkLaws.{Sets, sets}
use Rattle.rising.proofs.Climb.{climb, port_climb}
use Rattle.rising.proofs.Steps.{ready_on, mark_room, port_room, ports_turn, port_turn, port_done, port_fewer, port_read, target_read}
use Rattle.rising.proofs.walk.+walk.Goals as goal

pub by_port-is_marked-requires-in-loop-j : goal.by_port-is_marked-requires-in-loop-j
by_port-is_marked-requires-in-loop-j t c =
    let m = image_of c.args.e.now in
    let x = target_read m c.args.port.0 c.loop-j.j c.row-start.ensures (ap (λ y. y.holds) c.row_at.ensures) c.requires.ready.rises c.requires.there c.loop-j-test.true in
    mark_room c.loop-j.marks c.requires.ready c.loop-j.invariant.grown.long x.there

pub by_port-mark-requires-in-loop-j : goal.by_port-mark-requires-in-loop-j
by_port-mark-requires-in-loop-j t c =
    let m = image_of c.args.e.now in
    let x = target_read m c.args.port.0 c.loop-j.j c.row-start.ensures (ap (λ y. y.holds) c.row_at.ensures) c.requires.ready.rises c.requires.there c.loop-j-test.true in
    mark_room c.loop-j.marks c.requires.ready c.loop-j.invariant.grown.long x.there

pub by_port-by_reaction-requires : goal.by_port-by_reaction-requires
by_port-by_reaction-requires t c =
    let m = image_of c.args.e.now in
    let x = target_read m c.args.port.0 c.loop-j.j c.row-start.ensures (ap (λ y. y.holds) c.row_at.ensures) c.requires.ready.rises c.requires.there c.loop-j-test.true in
    let g = c.loop-j.invariant.grown in
    let marks = ap length c.mark-in-loop-j.ensures ∙ (sets c.args.kind c.loop-j.marks c.row_at.result.holds.reaction.0 (mark_room c.loop-j.marks c.requires.ready g.long x.there)).long ∙ g.long in
    let ports = g.ports_long ∙ ap length c.mark.ensures ∙ (sets Bits c.args.ports.now c.args.port.0 (port_room c.requires.ready c.requires.there)).long in
    (subst (λ n. climb m c.row_at.result.holds.reaction.0 < n) c.decreases x.falls, (ready_on c.requires.ready marks ports, x.there))

pub by_port-loop-j-preserved : goal.by_port-loop-j-preserved
by_port-loop-j-preserved t c =
    let m = image_of c.args.e.now in
    let x = target_read m c.args.port.0 c.loop-j.j c.row-start.ensures (ap (λ y. y.holds) c.row_at.ensures) c.requires.ready.rises c.requires.there c.loop-j-test.true in
    let s = sets c.args.kind c.loop-j.marks c.row_at.result.holds.reaction.0 (mark_room c.loop-j.marks c.requires.ready c.loop-j.invariant.grown.long x.there) in
    port_turn x.is x.inside x.there (subst (λ ys. Sets c.args.kind c.row_at.result.holds.reaction.0 c.loop-j.marks ys) (sym c.mark-in-loop-j.ensures) s) c.loop-j.invariant c.by_reaction.ensures

pub by_port-returns : goal.by_port-returns
by_port-returns t c =
    let m = image_of c.args.e.now in
    let len = ap (λ row. row.triggers.len) c.row-start.ensures in
    let over : triggers_of m c.args.port.0 ≤ c.loop-j.j = omega (arith, len, c.loop-j-test.false) in
    let s = sets Bits c.args.ports.now c.args.port.0 (port_room c.requires.ready c.requires.there) in
    port_done c.args.port.0 (subst (λ ys. Sets Bits c.args.port.0 c.args.ports.now ys) (sym c.mark.ensures) s) (port_fewer over c.loop-j.invariant)

pub by_reaction-by_port-requires : goal.by_reaction-by_port-requires
by_reaction-by_port-requires t c =
    let m = image_of c.args.e.now in
    let x = port_read m c.args.reaction.0 c.loop-k.k c.row-start.result (ap reaction_part c.row-start.ensures) (ap (λ y. y.holds.0) c.row_at.ensures) c.requires.ready.rises c.requires.there c.loop-k-test.true in
    let g = c.loop-k.invariant.grown in
    (subst (λ n. port_climb m c.row_at.result.holds.0 < n) c.decreases x.falls, (ready_on c.requires.ready g.long g.ports_long, x.there))

pub by_reaction-loop-k-preserved : goal.by_reaction-loop-k-preserved
by_reaction-loop-k-preserved t c =
    let m = image_of c.args.e.now in
    let x = port_read m c.args.reaction.0 c.loop-k.k c.row-start.result (ap reaction_part c.row-start.ensures) (ap (λ y. y.holds.0) c.row_at.ensures) c.requires.ready.rises c.requires.there c.loop-k-test.true in
    ports_turn x.is x.inside c.loop-k.invariant c.by_port.ensures
