-- The line that the program prints, in bytes. Assumes nothing.
use Rattle.std.specs.Prelude.{ℕ, zero, suc, List, [], ◌∷◌, ◌++◌, Result, Ok, Err, codes, decimal}
use Rattle.federate.specs.Answer.{federate_answer}
use Rattle.night.specs.Night.{night_answer}
use Rattle.line_check.specs.declared.image.LineImage.{LineImage}
use Rattle.line_check.specs.declared.line.Profile.{Profile}
use Rattle.line_check.specs.declared.line.Profile.TheVariants.{Day, Night}
use Rattle.line_check.specs.declared.files.FileError.{FileError}
use Rattle.line_check.specs.declared.files.FileError.TheVariants.{NoFile, TooLong}
use Rattle.line_check.specs.Files.{file_bytes}

-- a blank and a number, without zeros in front
abbrev pub number_text : ℕ → List ℕ
number_text n = codes " " ++ decimal n

-- numbers, a blank before each
abbrev pub numbers_text : List ℕ → List ℕ
numbers_text [] = []
numbers_text (n ∷ ns) = number_text n ++ numbers_text ns

-- a word, numbers and the line's end
abbrev pub line : List ℕ → List ℕ → List ℕ
line word ns = word ++ numbers_text ns ++ codes "\n"

-- the line of an answer's numbers: 0 before those of acceptance, else the refusal's
abbrev pub answer_line : List ℕ → List ℕ
answer_line [] = line (codes "refused") []
answer_line (zero ∷ ns) = line (codes "accepted") ns
answer_line (suc k ∷ ns) = line (codes "refused") (suc k ∷ ns)

-- the answer of the check that is asked for
abbrev pub profile_answer : Profile → List ℕ → List ℕ → List ℕ → List ℕ
profile_answer Day = federate_answer
profile_answer Night = night_answer

-- the line for what was read
abbrev pub file_line : Profile → Result LineImage FileError → List ℕ
file_line profile (Err NoFile) = codes "no file\n"
file_line profile (Err TooLong) = codes "too long\n"
file_line profile (Ok image) = answer_line (profile_answer profile (file_bytes image.pack) (file_bytes image.batch) (file_bytes image.house))
