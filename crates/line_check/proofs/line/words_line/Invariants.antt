-- The text so far and that of the numbers still to come make up the word and all numbers; each number takes 21 places at most.
use Rattle.std.proofs.Common.{◌≡◌, ◌+◌, ◌*◌, ◌≤◌, ◌++◌, drop, length}
use Rattle.line_check.specs.Line.{numbers_text}
use Rattle.line_check.proofs.line.words_line.Given as goal

abbrev pub invariant-loop-n : goal.invariant-loop-n
invariant-loop-n l =
    (l.line.bytes ++ numbers_text (drop l.n-index l.numbers) ≡ l.word ++ numbers_text l.numbers) × (length l.line.bytes ≤ length l.word + 21 * l.n-index)
