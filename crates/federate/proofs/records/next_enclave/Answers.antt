-- What the search through the records finds.
use Rattle.std.proofs.Common.{rules, ◌≡◌, true, false, ◌∙◌}
use Rattle.std.proofs.lemmas.Iterator.{first_from_Range}
use Rattle.schema.specs.Records.{is_of}
use Rattle.federate.proofs.Ends.{searched}
use Rattle.federate.proofs.records.next_enclave.Goals as goal

pub returns : goal.returns
returns c =
    let p = c.args.pack.bytes.now in
    let found = first_from_Range _ _ _ _ (λ k. is_of p 1 k ≡ true) (λ k. is_of p 1 k ≡ false) c.find.ensures.ran (λ k q h. search rules) (λ k q h. search rules) in
    c.unwrap_or.ensures ∙ searched p c.args.n _ _ _ c.max.ensures c.records_of-records.ensures.value found
