-- What the law of every kind of row says. Assumes nothing.
use Rattle.std.specs.Prelude.{ℕ, ◌/◌, ◌%◌, ◌≡◌, ◌≤◌, List, length}

-- past a pack of whole records, a record holds what one of zeros holds
abbrev pub PastIs : {A : Type 0} → (List ℕ → ℕ → A) → A → Type 0
PastIs at zeros = (p : List ℕ) (n : ℕ) → length p / 64 ≤ n → length p % 64 ≡ 0 → zeros ≡ at p n
