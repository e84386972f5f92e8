-- A refusal of the checks is the answer.
use Rattle.std.proofs.Common.{◌≡◌, Err, rules, arith}
use Rattle.answers.specs.Checks.{first}
use Rattle.trees.specs.Answer.{next_checks}
use Rattle.trees.proofs.AnswerLaws.{next_refused}
use Rattle.trees.proofs.next_tree.Goals as goal

pub returns-in_err-check_table-clause-answer : goal.returns-in_err-check_table-clause-answer
returns-in_err-check_table-clause-answer c =
    let h : Err c.in_err-check_table.field-0.0 ≡ first (next_checks c.args.count c.args.table.now) = search rules in
    let k = next_refused c.args.count c.args.table.now h in
    grind (arith, k)
