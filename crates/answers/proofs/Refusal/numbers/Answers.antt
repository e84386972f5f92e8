-- The numbers lie in the struct of eight.
use Rattle.answers.proofs.RefusalNumbers.{numbers_fit}
use Rattle.answers.proofs.Refusal.numbers.Goals as goal

pub shared_ref_as_front-listed : goal.shared_ref_as_front-listed
shared_ref_as_front-listed c = numbers_fit c.args.self c.numbers-list.result c.numbers-list.ensures
