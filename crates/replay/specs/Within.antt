-- What was kept of a case lies in the room for its parts. Assumes nothing.
use Rattle.std.specs.Prelude.{ℕ, ◌≤◌, length}
use Rattle.replay.specs.declared.input.Case.{Case}

-- the bytes kept of the three parts lie in rooms of so many bytes
abbrev pub Within : Case → ℕ → ℕ → ℕ → Type 0
Within c pack batch house = (length c.pack.now ≤ pack) × ((length c.batch.now ≤ batch) × (length c.house.now ≤ house))
