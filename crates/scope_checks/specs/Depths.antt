-- Depths of scopes, for the walk that finds each scope's links once. No promise is about them: `links_by` asks that those lent to it are right, and
-- where none are lent they are. Assumes nothing.
use Rattle.std.specs.Prelude.{ℕ, ◌+◌, ◌<◌, List, ◌≡◌, get_or, Result}
use Rattle.answers.specs.declared.Refusal.{Refusal}
use Rattle.answers.specs.Checks.{first, run, answer_of}
use Rattle.checks.specs.Image.{Image}
use Rattle.scope_checks.specs.Links.{links_of, parents, links, cycle_checks}

-- what `check_parents` promises, for the functions that it chooses from
abbrev pub all_parents : Image → Result ℕ Refusal
all_parents m = answer_of (first (run (cycle_checks m) 0 (m.rows 7))) (links m)

-- a depth is 0, not known yet, or one more than the scope's links
unfoldable pub Known : Image → List ℕ → Type 0
Known m depths = (i : ℕ) → 0 < get_or depths i 0 → get_or depths i 0 ≡ links_of (parents m) (m.rows 7) i + 1
