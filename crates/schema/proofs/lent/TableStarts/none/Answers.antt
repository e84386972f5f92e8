-- Starts that are all 0 rise.
use Rattle.std.proofs.Common.{suc}
use Rattle.schema.specs.Tables.{tables}
use Rattle.schema.proofs.Tables.{zeros_rise}
use Rattle.schema.proofs.lent.TableStarts.none.Goals as goal

pub invariant_of-result : goal.invariant_of-result
invariant_of-result c = record { rising = zeros_rise (suc tables) }
