-- The checks of rows: each looks past its own row only by a reference that was tested. Assumes nothing.
use Prim.Native.Nat.{ℕ, ◌-◌, ◌<◌}
use mathlib.Core.Bool.{Bool, true, false}
use mathlib.Core.Path.{◌≡◌}
use native.Mathlib.Omega.{arith}
use borrow.Author.Tests.{ltb-true}
use Rattle.std.specs.Prelude.{Option, Some, None}
use Rattle.answers.proofs.Alike.{Alike, alike_same, alike_need, alike_append}
use Rattle.schema.specs.Indexes.{ModeIndex, BindingSlotIndex}
use Rattle.schema.specs.declared.rows.ScopeImage.{ScopeImage}
use Rattle.checks.specs.Image.{Image}
use Rattle.row_checks.specs.Reactors.{reactor_checks}
use Rattle.row_checks.specs.Actions.{action_binding_checks, action_checks}
use Rattle.row_checks.specs.Ports.{port_checks}
use Rattle.row_checks.specs.Reactions.{effect_checks, reaction_ends_before, reaction_checks}
use Rattle.row_checks.specs.Modes.{mode_checks}
use Rattle.scope_checks.specs.Ends.{ends_before}
use Rattle.scope_checks.specs.Scopes.{parent_checks, scope_mode_checks, scope_owner_checks, scope_checks}
use Rattle.enclave.proofs.Opened.{the_rows, the_parts}
use Rattle.unlooked.specs.Images.{SameRows}

module _ (m n : Image) (s : SameRows m n) where
  -- n with what it has from m by equality; its rows are n's own
  abbrev pub own : Image
  own =
      record {
        rows = m.rows;
        reactors = n.reactors;
        actions = n.actions;
        ports = n.ports;
        reactions = n.reactions;
        modes = n.modes;
        scopes = n.scopes;
        indexes = n.indexes;
        levels = n.levels;
        startups = n.startups;
        lifecycles = n.lifecycles;
        routes = n.routes;
        bindings = n.bindings;
        deadlines = n.deadlines;
        enclave_id = m.enclave_id;
        text = m.text;
        state_slots = m.state_slots;
        action_slots = m.action_slots;
      }

  pub own_same : n ≡ own
  own_same e =
      record {
        rows = s.rows e;
        reactors = n.reactors;
        actions = n.actions;
        ports = n.ports;
        reactions = n.reactions;
        modes = n.modes;
        scopes = n.scopes;
        indexes = n.indexes;
        levels = n.levels;
        startups = n.startups;
        lifecycles = n.lifecycles;
        routes = n.routes;
        bindings = n.bindings;
        deadlines = n.deadlines;
        enclave_id = s.enclave_id e;
        text = s.text e;
        state_slots = s.state_slots e;
        action_slots = s.action_slots e;
      }

  pub reactor_alike : (i : ℕ) → i < m.rows 2 → Alike (reactor_checks m i) (reactor_checks own i)
  unfolding the_rows the_parts
  reactor_alike i l =
      rw (s.reactors i l, s.reactors (i - 1) (omega arith))
      (alike_need (λ b. rw (s.bindings _ (ltb-true _ _ b))
      (alike_need (λ _. alike_need (λ _. alike_need (λ v. rw (s.scopes _ (ltb-true _ _ v)) (alike_same _)))))))

  binding_alike :
      (i : ℕ) (standard : Bool) (b : Option BindingSlotIndex)
      → Alike (action_binding_checks m.rows m.bindings i standard b) (action_binding_checks m.rows n.bindings i standard b)
  unfolding action_binding_checks the_parts
  binding_alike i true (Some b) = alike_need (λ v. rw (s.bindings _ (ltb-true _ _ v)) (alike_same _))
  binding_alike i true None = alike_same _
  binding_alike i false (Some b) = alike_same _
  binding_alike i false None = alike_same _

  pub action_alike : (i : ℕ) → i < m.rows 3 → Alike (action_checks m i) (action_checks own i)
  unfolding the_rows the_parts
  action_alike i l =
      rw (s.actions i l, s.actions (i - 1) (omega arith))
      (alike_need (λ _. alike_need (λ _. alike_append (binding_alike i (m.actions i).standard (m.actions i).binding) (λ _. alike_same _))))

  pub port_alike : (i : ℕ) → i < m.rows 4 → Alike (port_checks m i) (port_checks own i)
  unfolding the_rows the_parts
  port_alike i l =
      rw (s.ports i l, s.ports (i - 1) (omega arith))
      (alike_need (λ b. rw (s.bindings _ (ltb-true _ _ b)) (alike_same _)))

  effect_alike : (i reactor : ℕ) (mode : Option ModeIndex) → Alike (effect_checks m.rows m.modes i reactor mode) (effect_checks m.rows n.modes i reactor mode)
  unfolding effect_checks
  effect_alike i reactor None = alike_same _
  effect_alike i reactor (Some v) = alike_need (λ b. rw (s.modes _ (ltb-true _ _ b)) (alike_same _))

  pub reaction_alike : (i : ℕ) → i < m.rows 5 → Alike (reaction_checks m i) (reaction_checks own i)
  unfolding the_rows the_parts reaction_ends_before
  reaction_alike i l =
      rw (s.reactions i l, s.reactions (i - 1) (omega arith))
      (alike_need (λ _. alike_need (λ v. rw (s.scopes _ (ltb-true _ _ v))
      (alike_need (λ b. rw (s.bindings _ (ltb-true _ _ b))
      (alike_need (λ _. alike_need (λ _. alike_append (effect_alike i (m.reactions i).reactor (m.reactions i).target) (λ _. alike_same _)))))))))

  pub mode_alike : (i : ℕ) → i < m.rows 6 → Alike (mode_checks m i) (mode_checks own i)
  unfolding the_rows the_parts
  mode_alike i l =
      rw (s.modes i l)
      (alike_need (λ r. rw (s.reactors _ (ltb-true _ _ r))
      (alike_need (λ v. rw (s.scopes _ (ltb-true _ _ v)) (alike_same _)))))

  scope_mode_alike :
      (i reactor : ℕ) (mode : Option ModeIndex)
      → Alike (scope_mode_checks m.rows m.modes i reactor mode) (scope_mode_checks m.rows n.modes i reactor mode)
  unfolding scope_mode_checks
  scope_mode_alike i reactor None = alike_same _
  scope_mode_alike i reactor (Some v) = alike_need (λ b. rw (s.modes _ (ltb-true _ _ b)) (alike_same _))

  owner_alike : (i : ℕ) (row : ScopeImage) → Alike (scope_owner_checks m i row) (scope_owner_checks own i row)
  unfolding scope_owner_checks
  owner_alike i row =
      alike_need (λ _. alike_append (alike_same (parent_checks m.rows i row.parent)) (λ _. scope_mode_alike i row.reactor.0 row.mode))

  pub scope_alike : (i : ℕ) → i < m.rows 7 → Alike (scope_checks m i) (scope_checks own i)
  unfolding the_rows ends_before
  scope_alike i l =
      rw (s.scopes i l, s.scopes (i - 1) (omega arith))
      (alike_append (owner_alike i (m.scopes i)) (λ _. alike_same _))
