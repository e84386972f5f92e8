-- What the walk from a reaction to its ports, and from a port to its reactions, does to their marks. Assumes nothing.
use Rattle.std.specs.Prelude.{ℕ, ◌<◌, ◌≤◌, ◌≡◌, true, List, ◌++◌, get_or, length, drop}
use lib.ListN.{replicate}
use mathlib.Core.Logic.{◌⊎◌}
use Rattle.checks.specs.Image.{Image}
use Rattle.rising.specs.declared.marks.Marks.{Marks}
use Rattle.rising.specs.declared.marks.Marks.TheVariants.{Bits}
use Rattle.rising.specs.Rising.{effects_of, port_of, triggers_of, target_of, LevelsRise}
use Rattle.rising.specs.Reach.{Reaches, others}
use Rattle.rising.specs.Marks.{room, marked, mark_of, is_marked}
use Rattle.rising.specs.Answer.{reach_count}

-- item i is marked
abbrev pub Has : Marks → List ℕ → ℕ → Type 0
Has k xs i = is_marked k xs i ≡ true

-- u is a reaction of port q, or is reached from one
pub record Via (m : Image) (q u : ℕ) : Type 0 where
  pub trigger : ℕ
  pub there : trigger < triggers_of m q
  pub on : (target_of m q trigger ≡ u) ⊎ Reaches m (target_of m q trigger) u

-- what the walk is given: levels that rise, room for the mark of each reaction, and for a bit for each port
pub record Ready (m : Image) (k : Marks) (marks ports : List ℕ) : Type 0 where
  pub rises : LevelsRise m
  pub marks_long : room k (m.rows 5) ≤ length marks
  pub ports_long : room Bits (m.rows 4) ≤ length ports

-- from marks and entered ports to later ones: none is lost, no byte past the marks changes and each stays one, a new mark is a reaction's and 1,
-- each newly marked reaction has all its ports entered, and each newly entered port has all its reactions marked
pub record Grown (m : Image) (k : Marks) (marks later ports later_ports : List ℕ) : Type 0 where
  pub long : length later ≡ length marks
  pub ports_long : length later_ports ≡ length ports
  pub beyond : (i : ℕ) → room k (m.rows 5) ≤ i → get_or later i 0 ≡ get_or marks i 0
  pub fits : (i : ℕ) → get_or marks i 0 < 256 → get_or later i 0 < 256
  pub mark : (i : ℕ) → (mark_of k later i ≡ mark_of k marks i) ⊎ ((mark_of k later i ≡ 1) × (i < m.rows 5))
  pub port_kept : (q : ℕ) → Has Bits ports q → Has Bits later_ports q
  pub reaction_closed : (u : ℕ) → Has k later u → Has k marks u ⊎ ((i : ℕ) → i < effects_of m u → Has Bits later_ports (port_of m u i))
  pub port_closed : (q : ℕ) → Has Bits later_ports q → Has Bits ports q ⊎ ((j : ℕ) → j < triggers_of m q → Has k later (target_of m q j))

-- the walk through the first n ports of reaction r
pub record FromReaction (m : Image) (k : Marks) (r n : ℕ) (marks later ports later_ports : List ℕ) : Type 0 where
  pub grown : Grown m k marks later ports later_ports
  pub entered : (i : ℕ) → i < n → Has Bits later_ports (port_of m r i)
  pub sound : (u : ℕ) → Has k later u → Has k marks u ⊎ Reaches m r u

-- the walk through the first n reactions of port q
pub record FromPort (m : Image) (k : Marks) (q n : ℕ) (marks later ports later_ports : List ℕ) : Type 0 where
  pub grown : Grown m k marks later ports later_ports
  pub marked : (i : ℕ) → i < n → Has k later (target_of m q i)
  pub sound : (u : ℕ) → Has k later u → Has k marks u ⊎ Via m q u

-- port q entered
pub record Entered (m : Image) (k : Marks) (q : ℕ) (marks later ports later_ports : List ℕ) : Type 0 where
  pub grown : Grown m k marks later ports later_ports
  pub entered : Has Bits later_ports q
  pub sound : (u : ℕ) → Has k later u → Has k marks u ⊎ Via m q u

-- the first n bytes are 0, and those beyond stay
abbrev pub cleared : ℕ → List ℕ → List ℕ
cleared n xs = replicate n 0 ++ drop n xs

-- the count and the lent bytes, after the question for reaction r
pub record Counted (m : Image) (k : Marks) (r count : ℕ) (before after : List ℕ) : Type 0 where
  pub is : count ≡ reach_count m r
  pub marks : after ≡ marked k (others m r) (m.rows 5) before
