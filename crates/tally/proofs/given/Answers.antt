-- Each answer by the tests before it.
use Rattle.std.proofs.Common.{arith}
use Rattle.tally.proofs.TallyLaws.{more-accepted, too_many, some-accepted, none-accepted}
use Rattle.tally.proofs.given.Goals as goal

pub returns-then-tally : goal.returns-then-tally
returns-then-tally c = more-accepted c.args.tally (omega arith)

pub returns-then-tally-gt-MOST : goal.returns-then-tally-gt-MOST
returns-then-tally-gt-MOST c = too_many c.args.tally (omega arith) (omega arith)

pub returns-then-tally-gt0 : goal.returns-then-tally-gt0
returns-then-tally-gt0 c = some-accepted c.args.tally (omega arith) (omega arith) (omega arith) (omega arith)

pub returns : goal.returns
returns c = none-accepted c.args.tally (omega arith) (omega arith) (omega arith) (omega arith)
