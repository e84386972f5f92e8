-- Levels that rise: each reaction stands below every reaction that its ports trigger (document 02, Wish 4). Assumes nothing.
use Rattle.std.specs.Prelude.{ℕ, ◌+◌, ◌≡◌, List, [], ◌∷◌, ◌++◌, ltb}
use Rattle.answers.specs.declared.Refusal.TheVariants.{LevelNotRising}
use Rattle.answers.specs.Checks.{Check, need, first, run, passed}
use Rattle.packing.specs.declared.PackKind.TheVariants.{Enclave}
use Rattle.packing.specs.Packing.{packing_checks}
use Rattle.checks.specs.Image.{Image}
use Rattle.scope_checks.specs.Links.{links}
use Rattle.enclave.specs.Passes.{enclave_checks}
use Rattle.enclave.specs.Answer.{unless, pack_image}

-- the level of reaction r
abbrev pub stands_on : Image → ℕ → ℕ
stands_on m r = (m.reactions r).level

-- how many ports reaction r has effects on, and the port at place k of them
abbrev pub effects_of : Image → ℕ → ℕ
effects_of m r = (m.reactions r).effects.len

abbrev pub port_of : Image → ℕ → ℕ → ℕ
port_of m r k = m.indexes 10 ((m.reactions r).effects.start + k)

-- how many reactions port q triggers, and the reaction at place j of them
abbrev pub triggers_of : Image → ℕ → ℕ
triggers_of m q = (m.ports q).triggers.len

abbrev pub target_of : Image → ℕ → ℕ → ℕ
target_of m q j = (m.levels 8 ((m.ports q).triggers.start + j)).reaction.0

-- reaction r stands below the reaction at place j of port q
abbrev pub trigger_rising : Image → ℕ → ℕ → ℕ → List Check
trigger_rising m r q j = need (ltb (stands_on m r) (stands_on m (target_of m q j))) (LevelNotRising r (target_of m q j)) ∷ []

-- and below every reaction of port q
unfoldable pub port_rising : Image → ℕ → ℕ → List Check
port_rising m r q = run (trigger_rising m r q) 0 (triggers_of m q)

-- for every port that it has effects on
unfoldable pub reaction_rising : Image → ℕ → List Check
reaction_rising m r = run (λ k. port_rising m r (port_of m r k)) 0 (effects_of m r)

unfoldable pub rising_checks : Image → List Check
rising_checks m = run (reaction_rising m) 0 (m.rows 5)

-- packing, the station's own checks, then those of its levels
unfoldable pub station_checks : List ℕ → List ℕ → List ℕ → List Check
station_checks p batch house =
    packing_checks Enclave p batch house
    ++ (enclave_checks (pack_image p batch house) ++ rising_checks (pack_image p batch house))

-- the second station check has the same yes
unfoldable pub rising_answer : List ℕ → List ℕ → List ℕ → List ℕ
rising_answer p batch house = unless (first (station_checks p batch house)) (0 ∷ links (pack_image p batch house) ∷ [])

-- an image that is accepted and whose levels rise
pub record LevelsRise (m : Image) : Type 0 where
  pub accepted : first (enclave_checks m) ≡ passed
  pub rising : first (rising_checks m) ≡ passed
