-- A list of numbers in a struct of eight: the numbers first, zeros after them. Assumes nothing.
use Rattle.std.specs.Prelude.{ℕ, List, ◌++◌, take, replicate}
use Rattle.answers.specs.declared.NumberList.{NumberList}

abbrev pub listed : ℕ → List ℕ → NumberList
listed n xs = record { len = n; values = take 8 (xs ++ replicate 8 0) }
