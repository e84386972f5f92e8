-- A valid identity, over the scalars of its text (document 01, module 2).
use Rattle.std.specs.Prelude.{ℕ, Bool, true, false, not, ◌&&◌, List, [], ◌∷◌, Option, Some, None}
use Rattle.identity.specs.Utf8.{decode}
use Rattle.identity.specs.Unicode.{control, white_space}

abbrev pub no_control : List ℕ → Bool
no_control [] = true
no_control (v ∷ vs) = not (control v) && no_control vs

-- The last of v ∷ vs.
abbrev pub last : ℕ → List ℕ → ℕ
last v [] = v
last v (w ∷ vs) = last w vs

-- Not empty, no control anywhere, the first and the last not White_Space.
unfoldable pub valid_scalars : List ℕ → Bool
valid_scalars [] = false
valid_scalars (v ∷ vs) = no_control (v ∷ vs) && (not (white_space v) && not (white_space (last v vs)))

abbrev pub valid_text : Option (List ℕ) → Bool
valid_text (Some vs) = valid_scalars vs
valid_text None = false

abbrev pub valid_id : List ℕ → Bool
valid_id s = valid_text (decode s)
