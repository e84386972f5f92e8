-- A row that its table has lies before the enclave's end, and so in the pack.
use Rattle.std.proofs.Common.{arith}
use Rattle.schema.proofs.Tables.{row_inside}
use Rattle.schema.proofs.lent.Enclave.record.Goals as goal

pub returns-clause-inside : goal.returns-clause-inside
returns-clause-inside c =
    let e = c.args.self.now in
    row_inside e.starts.now.firsts c.args.table c.args.i _ e.starts.now.rising c.requires.known c.record.ensures

pub returns-clause-there : goal.returns-clause-there
returns-clause-there c h =
    let e = c.args.self.now in
    let before = row_inside e.starts.now.firsts c.args.table c.args.i _ e.starts.now.rising c.requires.known c.record.ensures h in
    let end = e.inside in
    omega arith
