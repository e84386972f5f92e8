-- The walk over cleared marks and clear ports leaves exactly what is reached.
use Rattle.std.proofs.Common.{◌≡◌, ◌∙◌, ap}
use Rattle.schema.specs.Records.{count_below}
use Rattle.checks.specs.Image.{image_of}
use Rattle.rising.specs.Marks.{room, is_marked}
use Rattle.rising.specs.Walk.{cleared}
use Rattle.rising.proofs.Counting.{counted, none_shut}
use Rattle.rising.proofs.reach.count_from.Goals as goal

pub returns : goal.returns
returns c =
    let m = image_of c.args.e.now in
    let rows : c.rows-reactions.result ≡ m.rows 5 = c.rows-reactions.ensures in
    let need : c.room.result ≡ room c.args.kind (m.rows 5) = c.room.ensures ∙ ap (λ x. room c.args.kind x) rows in
    let clear : c.clear.new.bytes ≡ cleared (room c.args.kind (m.rows 5)) c.args.scratch.now = c.clear.ensures ∙ ap (λ x. cleared x c.args.scratch.now) need in
    let count : c.count.result ≡ count_below (is_marked c.args.kind c.by_reaction.new.marks) (m.rows 5) = rw rows at c.count.ensures in
    counted m c.args.kind c.args.reaction.0 c.args.scratch.now c.requires.rises c.requires.there c.requires.fits (none_shut 8192) (rw clear at c.by_reaction.ensures) count
