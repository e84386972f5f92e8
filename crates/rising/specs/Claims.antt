-- What is promised of levels that rise and of what a reaction reaches. Assumes nothing.
use Rattle.std.specs.Prelude.{ℕ, ◌<◌, ◌≤◌, ◌≡◌, ◌↔◌, true, List, [], ◌∷◌, length}
use Rattle.checks.specs.Image.{Image}
use Rattle.enclave.specs.Answer.{pack_image, enclave_answer}
use Rattle.rising.specs.declared.marks.Marks.{Marks}
use Rattle.rising.specs.declared.marks.Marks.TheVariants.{Bytes, Bits}
use Rattle.rising.specs.Rising.{stands_on, rising_answer, LevelsRise}
use Rattle.rising.specs.Reach.{Triggers, Reaches, others}
use Rattle.rising.specs.Marks.{room, mark_of}
use Rattle.rising.specs.Answer.{reach_answer, scratch_after}

-- a yes of the second station check is the first's, with the same links, of an image whose levels rise
abbrev pub YesRises : Type 0
YesRises =
    (p batch house : List ℕ) (c : ℕ) → rising_answer p batch house ≡ 0 ∷ c ∷ []
    → (enclave_answer p batch house ≡ 0 ∷ c ∷ []) × LevelsRise (pack_image p batch house)

-- every trigger leads to a reaction of the table, on a higher level, and so does every way
abbrev pub EveryTriggerRises : Type 0
EveryTriggerRises = (m : Image) → LevelsRise m → (r u : ℕ) → r < m.rows 5 → Triggers m r u → (u < m.rows 5) × (stands_on m r < stands_on m u)

abbrev pub EveryWayRises : Type 0
EveryWayRises = (m : Image) → LevelsRise m → (r u : ℕ) → r < m.rows 5 → Reaches m r u → (u < m.rows 5) × (stands_on m r < stands_on m u)

-- no reaction reaches itself
abbrev pub NeverItself : Type 0
NeverItself = (m : Image) → LevelsRise m → (r : ℕ) → r < m.rows 5 → Reaches m r r → ⊥

-- what is counted and marked is exactly what is reached
abbrev pub ReachedIsClosure : Type 0
ReachedIsClosure = (m : Image) → LevelsRise m → (r u : ℕ) → r < m.rows 5 → (others m r u ≡ true) ↔ Reaches m r u

-- an answer to the question with 0 before it is one of a reaction that is there, in an image whose levels rise; then the mark of
-- each reaction is 1 exactly where it is reached, and else 0
abbrev pub MarksTell : Type 0
MarksTell =
    (k : Marks) (p batch house : List ℕ) (r : ℕ) (scratch : List ℕ) (n : ℕ)
    → reach_answer k p batch house r scratch ≡ 0 ∷ n ∷ []
    → let m = pack_image p batch house in let after = scratch_after k p batch house r scratch in
    LevelsRise m × (r < m.rows 5)
    × ((u : ℕ) → u < m.rows 5 → (mark_of k after u ≡ 1) ↔ Reaches m r u)
    × ((u : ℕ) → u < m.rows 5 → (mark_of k after u ≡ 0) ↔ (Reaches m r u → ⊥))

-- whatever the marks: where both have room, both give one number, and one mark to each reaction
abbrev pub SameReach : Type 0
SameReach =
    (p batch house : List ℕ) (r : ℕ) (scratch small : List ℕ)
    → let m = pack_image p batch house in
    room Bytes (m.rows 5) ≤ length scratch → room Bits (m.rows 5) ≤ length small
    → reach_answer Bits p batch house r small ≡ reach_answer Bytes p batch house r scratch

abbrev pub SameMarks : Type 0
SameMarks =
    (p batch house : List ℕ) (r : ℕ) (scratch small : List ℕ) (n : ℕ)
    → let m = pack_image p batch house in
    reach_answer Bytes p batch house r scratch ≡ 0 ∷ n ∷ [] → reach_answer Bits p batch house r small ≡ 0 ∷ n ∷ []
    → (u : ℕ) → u < m.rows 5
    → mark_of Bits (scratch_after Bits p batch house r small) u ≡ mark_of Bytes (scratch_after Bytes p batch house r scratch) u
