-- The limits looked up are those of the table's layout.
use Rattle.std.proofs.Common.{rules, ◌≡◌, ◌∙◌, ◌%◌, ◌<◌, arith}
use Rattle.schema.specs.Bytes.{byte_of}
use Rattle.packing.specs.Shape.{shape_of}
use Rattle.packing.proofs.Limits.{within-limits, limits-of}
use Rattle.packing.proofs.clean.layout_clean.Goals as goal

pub returns : goal.returns
returns c =
    let p = c.args.item.bytes.now in
    let n = c.args.item.number in
    let t = byte_of p n 0 in
    let shape : c.shape_of-shape.result.now ≡ shape_of t = search rules in
    let own : c.from.result ≡ byte_of p n 1 % 4 = search rules in
    let few : c.from.result < 4 = omega arith in
    c.within.ensures ∙ rw (shape, limits-of t c.from.result few) (within-limits p n t c.from.result own)
