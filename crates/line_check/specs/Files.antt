-- What reading three files comes to. Assumes nothing.
use Rattle.std.specs.Prelude.{ℕ, List, Bool, true, false, ◌||◌, cond, nat_lt, nat_le, Option, Some, None, Result, Ok, Err, codes, take, if◌then◌else◌}
use Rattle.line_check.specs.declared.image.File.{File}
use Rattle.line_check.specs.declared.image.LineImage.{LineImage}
use Rattle.line_check.specs.declared.files.FileError.{FileError}
use Rattle.line_check.specs.declared.files.FileError.TheVariants.{NoFile, TooLong}

abbrev pub error_text : FileError → List ℕ
error_text NoFile = codes "no file"
error_text TooLong = codes "too long"

-- a file of which so many bytes were read into a room of k bytes: too long where the room is full, since more may be there; None stands for one that cannot be read
abbrev pub length_within : Option ℕ → ℕ → Result ℕ FileError
length_within (Some n) k = if nat_le k n then Err TooLong else Ok n
length_within None k = Err NoFile

-- the same of a file of a line image: too long where there are more than 65,536 bytes, or where the room is full and more may be there
abbrev pub file_of : Option ℕ → ℕ → Result ℕ FileError
file_of (Some n) k = if nat_lt 65536 n || nat_le k n then Err TooLong else Ok n
file_of None k = Err NoFile

abbrev pub file_bytes : File → List ℕ
file_bytes file = take file.len file.room.now

abbrev pub is_missing : {A : Type 0} → Result A FileError → Bool
is_missing (Ok file) = false
is_missing (Err NoFile) = true
is_missing (Err TooLong) = false

-- three files of which none is missing: `too long` if one is longer
abbrev pub all_read : Result File FileError → Result File FileError → Result File FileError → Result LineImage FileError
all_read (Ok pack) (Ok batch) (Ok house) = Ok (record { pack = pack; batch = batch; house = house })
all_read (Ok pack) (Ok batch) (Err e) = Err TooLong
all_read (Ok pack) (Err e) house = Err TooLong
all_read (Err e) batch house = Err TooLong

-- `no file` if a file cannot be read; else `too long` if one is longer
abbrev pub together : Result File FileError → Result File FileError → Result File FileError → Result LineImage FileError
together pack batch house =
    cond (is_missing pack || (is_missing batch || is_missing house)) (Err NoFile) (all_read pack batch house)
