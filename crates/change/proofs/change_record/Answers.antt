-- A refusal leaves the pack.
use Rattle.change.proofs.After.{after-refused}
use Rattle.change.proofs.change_record.Goals as goal

pub returns-in_err-accepted-clause-pack : goal.returns-in_err-accepted-clause-pack
returns-in_err-accepted-clause-pack c =
    after-refused c.args.pack.now c.args.batch.now c.args.house.now c.args.number c.args.row.now c.in_err-accepted.field-0.0 c.in_err-accepted.ensures
