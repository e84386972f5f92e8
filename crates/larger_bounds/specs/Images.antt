-- Demand 3 for enclaves, over images: larger bounds, and the slot checks left out. Assumes nothing.
use Rattle.std.specs.Prelude.{ℕ, ◌<◌, ◌≤◌, ◌≡◌, ◌↔◌}
use Rattle.answers.specs.Checks.{first, passed}
use Rattle.answers.specs.Slots.{SlotRefusal, without_slots}
use Rattle.checks.specs.Image.{Image}
use Rattle.scope_checks.specs.Links.{links}
use Rattle.enclave.specs.Passes.{enclave_checks}

-- the image with other slot bounds
abbrev pub with_bounds : Image → ℕ → ℕ → Image
with_bounds m state action =
    record {
      rows = m.rows;
      reactors = m.reactors;
      actions = m.actions;
      ports = m.ports;
      reactions = m.reactions;
      modes = m.modes;
      scopes = m.scopes;
      indexes = m.indexes;
      levels = m.levels;
      startups = m.startups;
      lifecycles = m.lifecycles;
      routes = m.routes;
      bindings = m.bindings;
      deadlines = m.deadlines;
      enclave_id = m.enclave_id;
      text = m.text;
      state_slots = state;
      action_slots = action;
    }

-- an answer other than a slot refusal is the answer with larger bounds (the link count does not depend on them)
abbrev pub LargerBounds : Type 0
LargerBounds =
    (m : Image) (state action : ℕ) → m.state_slots ≤ state → m.action_slots ≤ action
    → (SlotRefusal (first (enclave_checks m)) → ⊥)
    → first (enclave_checks (with_bounds m state action)) ≡ first (enclave_checks m)

-- every state slot used, and every action slot used, is below its bound
abbrev pub SlotsBelow : Image → Type 0
SlotsBelow m =
    ((i : ℕ) → i < m.rows 2 → (m.reactors i).state_slot < m.state_slots)
    × ((i : ℕ) → i < m.rows 3 → (m.actions i).slot < m.action_slots)

-- accepted exactly when passing with the slot checks left out and every slot is below its bound
abbrev pub AcceptedExactly : Type 0
AcceptedExactly =
    (m : Image)
    → (first (enclave_checks m) ≡ passed) ↔ ((first (without_slots (enclave_checks m)) ≡ passed) × SlotsBelow m)

-- the link count does not depend on the bounds
abbrev pub SameLinks : Type 0
SameLinks = (m : Image) (state action : ℕ) → links (with_bounds m state action) ≡ links m
