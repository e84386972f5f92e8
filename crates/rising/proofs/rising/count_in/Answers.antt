-- A reaction that is not there, bytes that are too few, and the count.
use Rattle.std.proofs.Common.{◌≡◌, ◌<◌, ◌≤◌, length, ◌∙◌, sym, ap, [], ◌∷◌, rules, arith}
use Rattle.std.specs.Prelude.{Err}
use Rattle.answers.specs.Checks.{first, passed}
use Rattle.checks.specs.Image.{image_of}
use Rattle.rising.specs.Marks.{room}
use Rattle.rising.proofs.AnswerLaws.{reaction_there, no_reaction, there_is, too_short, room_there}
use Rattle.rising.proofs.rising.count_in.Goals as goal

pub returns-in_err-check_exists-clause-answer : goal.returns-in_err-check_exists-clause-answer
returns-in_err-check_exists-clause-answer c =
    let m = image_of c.args.e.now in
    let e : first (reaction_there c.args.kind m c.args.reaction.0 c.args.scratch.now) ≡ Err c.in_err-check_exists.field-0.0 = search rules in
    let k = (no_reaction c.args.kind m c.args.reaction.0 c.args.scratch.now e).0 in
    grind (arith, k)

pub returns-in_err-check_exists-clause-scratch : goal.returns-in_err-check_exists-clause-scratch
returns-in_err-check_exists-clause-scratch c =
    let m = image_of c.args.e.now in
    let e : first (reaction_there c.args.kind m c.args.reaction.0 c.args.scratch.now) ≡ Err c.in_err-check_exists.field-0.0 = search rules in
    sym (no_reaction c.args.kind m c.args.reaction.0 c.args.scratch.now e).1

pub returns-then-scratch-room-clause-answer : goal.returns-then-scratch-room-clause-answer
returns-then-scratch-room-clause-answer c =
    let m = image_of c.args.e.now in
    let e : first (reaction_there c.args.kind m c.args.reaction.0 c.args.scratch.now) ≡ passed = search rules in
    let need = c.room.ensures ∙ ap (λ x. room c.args.kind x) c.rows.ensures in
    let short : length c.args.scratch.now < room c.args.kind (m.rows 5) = omega (arith, need, c.if-scratch-room.true) in
    sym (too_short c.args.kind m c.args.reaction.0 c.args.scratch.now e short).0

pub returns-then-scratch-room-clause-scratch : goal.returns-then-scratch-room-clause-scratch
returns-then-scratch-room-clause-scratch c =
    let m = image_of c.args.e.now in
    let e : first (reaction_there c.args.kind m c.args.reaction.0 c.args.scratch.now) ≡ passed = search rules in
    let need = c.room.ensures ∙ ap (λ x. room c.args.kind x) c.rows.ensures in
    let short : length c.args.scratch.now < room c.args.kind (m.rows 5) = omega (arith, need, c.if-scratch-room.true) in
    sym (too_short c.args.kind m c.args.reaction.0 c.args.scratch.now e short).1

pub count_from-requires-clause-there : goal.count_from-requires-clause-there
count_from-requires-clause-there c =
    let m = image_of c.args.e.now in
    let e : first (reaction_there c.args.kind m c.args.reaction.0 c.args.scratch.now) ≡ passed = search rules in
    there_is c.args.kind m c.args.reaction.0 c.args.scratch.now e

pub returns-clause-answer : goal.returns-clause-answer
returns-clause-answer c =
    let m = image_of c.args.e.now in
    let e : first (reaction_there c.args.kind m c.args.reaction.0 c.args.scratch.now) ≡ passed = search rules in
    let need = c.room.ensures ∙ ap (λ x. room c.args.kind x) c.rows.ensures in
    let long : room c.args.kind (m.rows 5) ≤ length c.args.scratch.now = omega (arith, need, c.if-scratch-room.false) in
    ap (λ n. 0 ∷ n ∷ []) c.count_from.ensures.is ∙ sym (room_there c.args.kind m c.args.reaction.0 c.args.scratch.now e long).0

pub returns-clause-scratch : goal.returns-clause-scratch
returns-clause-scratch c =
    let m = image_of c.args.e.now in
    let e : first (reaction_there c.args.kind m c.args.reaction.0 c.args.scratch.now) ≡ passed = search rules in
    let need = c.room.ensures ∙ ap (λ x. room c.args.kind x) c.rows.ensures in
    let long : room c.args.kind (m.rows 5) ≤ length c.args.scratch.now = omega (arith, need, c.if-scratch-room.false) in
    c.count_from.ensures.marks ∙ sym (room_there c.args.kind m c.args.reaction.0 c.args.scratch.now e long).1
