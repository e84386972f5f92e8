-- There are at most eight numbers.
use Rattle.std.proofs.Common.{arith}
use Rattle.answers.proofs.RefusalNumbers.{numbers_fit}
use Rattle.image_check.proofs.put_refusal.Goals as goal

pub overflow_cast-result : goal.overflow_cast-result
overflow_cast-result c =
    record { fits = omega (arith, numbers_fit c.args.refusal c.numbers-list.result c.numbers-list.ensures) }
