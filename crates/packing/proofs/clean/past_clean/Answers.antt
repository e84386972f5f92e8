-- What the search through the records finds.
use Rattle.std.proofs.Common.{rules}
use Rattle.std.proofs.lemmas.Iterator.{first_from_Range}
use Rattle.packing.proofs.Runs.{CleanOf, NotCleanOf, searched}
use Rattle.packing.proofs.clean.past_clean.Goals as goal

pub returns : goal.returns
returns c =
    let p = c.args.p.now in
    let t = c.args.table in
    let found = first_from_Range _ _ _ _ (NotCleanOf p t) (CleanOf p t) c.find.ensures.ran (λ k q h. search rules) (λ k q h. search rules) in
    rw c.unwrap_or.ensures (searched p t c.args.n c.args.end _ c.requires.from c.requires.inside found)
