-- A port without triggers; one whose first trigger stands above the reaction, and one whose does not.
use Rattle.std.proofs.Common.{◌<◌, ◌≤◌, ◌∙◌, sym, ap, arith}
use Rattle.checks.specs.Image.{image_of}
use Rattle.rising.specs.Rising.{stands_on, triggers_of}
use Rattle.rising.proofs.LevelLaws.{none_triggered, first_above, first_not_above}
use Rattle.rising.proofs.levels.check_port.Goals as goal

pub returns-then-len-eq0 : goal.returns-then-len-eq0
returns-then-len-eq0 c =
    let m = image_of c.args.e.now in
    sym (none_triggered m c.requires.accepted c.args.reaction.0 c.args.port.0 c.requires.there (sym (ap (λ row. row.triggers.len) c.row-start.ensures) ∙ c.if-len-eq0.true))

pub returns-then-level-lowest : goal.returns-then-level-lowest
returns-then-level-lowest c =
    let m = image_of c.args.e.now in
    let len = ap (λ row. row.triggers.len) c.row-start.ensures in
    let some : 0 < triggers_of m c.args.port.0 = omega (arith, len, c.if-len-eq0.false) in
    let at = ap (λ x. x.holds) c.row_at.ensures ∙ ap (λ row. m.levels 8 row.triggers.start) c.row-start.ensures in
    let level = ap (λ x. x.level) at in
    let above : stands_on m c.args.reaction.0 < (m.levels 8 (m.ports c.args.port.0).triggers.start).level = omega (arith, level, c.requires.level, c.if-level-lowest.true) in
    sym (first_above m c.requires.accepted c.args.reaction.0 c.args.port.0 c.requires.there some above)

pub returns : goal.returns
returns c =
    let m = image_of c.args.e.now in
    let len = ap (λ row. row.triggers.len) c.row-start.ensures in
    let some : 0 < triggers_of m c.args.port.0 = omega (arith, len, c.if-len-eq0.false) in
    let at = ap (λ x. x.holds) c.row_at.ensures ∙ ap (λ row. m.levels 8 row.triggers.start) c.row-start.ensures in
    let level = ap (λ x. x.level) at in
    let not_above : (m.levels 8 (m.ports c.args.port.0).triggers.start).level ≤ stands_on m c.args.reaction.0 = omega (arith, level, c.requires.level, c.if-level-lowest.false) in
    rw at (sym (first_not_above m c.requires.accepted c.args.reaction.0 c.args.port.0 c.requires.there some not_above))
