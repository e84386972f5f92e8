-- Short texts of ASCII. Assumes nothing.
use Rattle.std.specs.Prelude.{ℕ, Bool, true, ◌&&◌, List, length}
use Rattle.identity.specs.declared.IdentityPlace.{IdentityPlace}
use Rattle.identity.specs.Within.{within}
use Rattle.identity.specs.Text.{place_inside, identity_text}
use Rattle.identity.specs.Scan.{every, ascii_at}

-- 4 to 16 bytes, each below 80.
abbrev pub short_ascii : List ℕ → Bool
short_ascii s = within 4 16 (length s) && every (ascii_at true s) 0 (length s)

-- A place inside its text, with such a part.
abbrev pub names_ascii : List ℕ → List ℕ → IdentityPlace → Bool
names_ascii batch house place = place_inside batch house place && short_ascii (identity_text batch house place)
