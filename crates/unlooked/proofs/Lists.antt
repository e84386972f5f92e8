-- The checks of list tables' entries, routes, bindings and deadlines: an entry of a range that passed lies in its table. Assumes nothing.
use Prim.Native.Nat.{ℕ, ◌+◌, ◌-◌, ◌<◌, ◌≤◌}
use mathlib.Core.Bool.{true}
use mathlib.Core.Path.{◌≡◌, refl}
use mathlib.Core.List.{List}
use native.Mathlib.Omega.{arith}
use borrow.Author.Tests.{ltb-true}
use Rattle.range.specs.declared.SliceRange.{SliceRange}
use Rattle.answers.specs.declared.field.Field.{Field}
use Rattle.answers.specs.Checks.{Check}
use Rattle.answers.proofs.Alike.{Alike, alike_same, alike_need, alike_append, alike_run}
use Rattle.schema.specs.declared.entries.LevelReactionImage.{LevelReactionImage}
use Rattle.checks.specs.Image.{Image}
use Rattle.checks.specs.Lists.{entry_index, level_ref_checks, entry_checks, listed_checks, range_of_checks, no_more, action_checks, level_of, reaction_of, levels_checks, lifecycles_checks}
use Rattle.list_checks.specs.ListTables.{named_checks, index_checks, startup_checks, trigger_checks, action_trigger_checks, port_trigger_checks, enabled_mode_checks, enabled_modes_checks, scope_list_checks, listed_entry_checks, level_entry_checks, lifecycle_entry_checks, shutdown_reaction_checks, shutdown_action_checks}
use Rattle.list_checks.specs.Deadlines.{deadline_checks}
use Rattle.list_checks.specs.Routes.{route_checks, binding_id_checks}
use Rattle.accepted.proofs.Rows.{ScopeHolds}
use Rattle.unlooked.specs.Images.{one_of, index_tables, level_tables, startup_tables, lifecycle_tables, SameRows}
use Rattle.unlooked.proofs.Rows.{own}

-- the range r lies in k rows
abbrev Inside : SliceRange → ℕ → Type 0
Inside r k = r.start + r.len ≤ k

module _ (m n : Image) (s : SameRows m n) where
  level_ref_alike : (t i : ℕ) (e : LevelReactionImage) → Alike (level_ref_checks m.rows m.reactions t i e) (level_ref_checks m.rows n.reactions t i e)
  level_ref_alike t i e = alike_need (λ r. rw (s.reactions _ (ltb-true _ _ r)) (alike_same _))

  -- entries that hold a reaction with its level, whatever else they hold: those of table t are e in m and f in n
  module _ {A : Type 0} (asks : ℕ → ℕ → A → List Check) (level : A → LevelReactionImage)
      (e f : ℕ → ℕ → A) (t : ℕ) (same : (i : ℕ) → i < m.rows t → f t i ≡ e t i) where
    entry_alike : (i : ℕ) (x : A) → Alike (entry_checks m.rows m.reactions asks level t i x) (entry_checks m.rows n.reactions asks level t i x)
    entry_alike i x = alike_append (alike_same (asks t i x)) (λ _. level_ref_alike t i (level x))

    -- entry k of the range from `start`, the range, and one entry by itself
    listed_alike :
        (start k : ℕ) → start + k < m.rows t
        → Alike (listed_checks m.rows m.reactions asks level e t start k) (listed_checks m.rows n.reactions asks level f t start k)
    unfolding listed_checks
    listed_alike start k l =
        rw (same (start + k) l, same (start + (k - 1)) (omega arith))
        (alike_append (entry_alike (entry_index start k) (e t (start + k))) (λ _. alike_same _))

    range_alike :
        (start len : ℕ) → start + len ≤ m.rows t
        → Alike (range_of_checks m.rows m.reactions asks level e t start len) (range_of_checks m.rows n.reactions asks level f t start len)
    unfolding range_of_checks
    range_alike start len h = alike_run (λ k l. listed_alike start k (omega arith))

    alone_alike :
        (i : ℕ) → i < m.rows t
        → Alike (listed_entry_checks m.rows m.reactions asks level e t i) (listed_entry_checks m.rows n.reactions asks level f t i)
    unfolding listed_entry_checks
    alone_alike i l = rw (same i l) (entry_alike i (e t i))

  levels_alike :
      (t : ℕ) → one_of level_tables t ≡ true → (r : SliceRange) → Inside r (m.rows t)
      → Alike (levels_checks m.rows m.reactions m.levels t r.start r.len) (levels_checks m.rows n.reactions n.levels t r.start r.len)
  levels_alike t o r h = range_alike (no_more m.rows) level_of m.levels n.levels t (λ i l. s.levels t i o l) r.start r.len h

  lifecycles_alike :
      (t : ℕ) → one_of lifecycle_tables t ≡ true → (r : SliceRange) → Inside r (m.rows t)
      → Alike (lifecycles_checks m.rows m.reactions m.lifecycles t r.start r.len) (lifecycles_checks m.rows n.reactions n.lifecycles t r.start r.len)
  lifecycles_alike t o r h = range_alike (action_checks m.rows) reaction_of m.lifecycles n.lifecycles t (λ i l. s.lifecycles t i o l) r.start r.len h

  -- the lists of a row
  pub action_triggers_alike :
      (i : ℕ) → i < m.rows 3 → Inside (m.actions i).triggers (m.rows 8)
      → Alike (action_trigger_checks m i) (action_trigger_checks (own m n s) i)
  unfolding action_trigger_checks trigger_checks
  action_triggers_alike i l h = rw (s.actions i l) (levels_alike 8 refl (m.actions i).triggers h)

  pub port_triggers_alike :
      (i : ℕ) → i < m.rows 4 → Inside (m.ports i).triggers (m.rows 8)
      → Alike (port_trigger_checks m i) (port_trigger_checks (own m n s) i)
  unfolding port_trigger_checks trigger_checks
  port_triggers_alike i l h = rw (s.ports i l) (levels_alike 8 refl (m.ports i).triggers h)

  pub enabled_modes_alike :
      (i : ℕ) → i < m.rows 5 → Inside (m.reactions i).enabled (m.rows 12)
      → Alike (enabled_modes_checks m i) (enabled_modes_checks (own m n s) i)
  unfolding enabled_modes_checks enabled_mode_checks
  enabled_modes_alike i l h =
      rw (s.reactions i l)
      (alike_run (λ k u. rw (s.indexes 12 ((m.reactions i).enabled.start + k) refl (omega arith))
      (alike_need (λ v. rw (s.modes _ (ltb-true _ _ v)) (alike_same _)))))

  pub scope_lists_alike : (i : ℕ) → i < m.rows 7 → ScopeHolds m i → Alike (scope_list_checks m i) (scope_list_checks (own m n s) i)
  unfolding scope_list_checks
  scope_lists_alike i l h =
      let row = m.scopes i in
      rw (s.scopes i l)
      (alike_append (levels_alike 16 refl row.reset_reactions h.reset_reactions.inside)
      (λ _. alike_append (lifecycles_alike 17 refl row.startup_reactions h.startup_reactions.inside)
      (λ _. lifecycles_alike 18 refl row.shutdown_reactions h.shutdown_reactions.inside)))

  -- the entries of a table
  pub index_alike :
      (t : ℕ) (f : Field) (g : ℕ) → one_of index_tables t ≡ true → (i : ℕ) → i < m.rows t
      → Alike (index_checks t f g m i) (index_checks t f g (own m n s) i)
  unfolding index_checks named_checks
  index_alike t f g o i l = rw (s.indexes t i o l) (alike_same _)

  pub startup_alike : (t : ℕ) → one_of startup_tables t ≡ true → (i : ℕ) → i < m.rows t → Alike (startup_checks t m i) (startup_checks t (own m n s) i)
  unfolding startup_checks named_checks
  startup_alike t o i l = rw (s.startups t i o l) (alike_same _)

  pub level_entry_alike :
      (t : ℕ) → one_of level_tables t ≡ true → (i : ℕ) → i < m.rows t
      → Alike (level_entry_checks t m i) (level_entry_checks t (own m n s) i)
  unfolding level_entry_checks
  level_entry_alike t o i l = alone_alike (no_more m.rows) level_of m.levels n.levels t (λ j u. s.levels t j o u) i l

  pub lifecycle_entry_alike :
      (t : ℕ) → one_of lifecycle_tables t ≡ true → (i : ℕ) → i < m.rows t
      → Alike (lifecycle_entry_checks t m i) (lifecycle_entry_checks t (own m n s) i)
  unfolding lifecycle_entry_checks
  lifecycle_entry_alike t o i l = alone_alike (action_checks m.rows) reaction_of m.lifecycles n.lifecycles t (λ j u. s.lifecycles t j o u) i l

  pub shutdown_reaction_alike : (i : ℕ) → i < m.rows 21 → Alike (shutdown_reaction_checks m i) (shutdown_reaction_checks (own m n s) i)
  shutdown_reaction_alike i l = listed_alike (action_checks m.rows) reaction_of m.lifecycles n.lifecycles 21 (λ j u. s.lifecycles 21 j refl u) 0 i (omega arith)

  pub shutdown_action_alike : (i : ℕ) → i < m.rows 22 → Alike (shutdown_action_checks m i) (shutdown_action_checks (own m n s) i)
  unfolding shutdown_action_checks index_checks named_checks
  shutdown_action_alike i l = rw (s.indexes 22 i refl l, s.indexes 22 (i - 1) refl (omega arith)) (alike_same _)

  pub route_alike : (i : ℕ) → i < m.rows 23 → Alike (route_checks m i) (route_checks (own m n s) i)
  unfolding route_checks
  route_alike i l = rw (s.routes i l, s.routes (i - 1) (omega arith)) (alike_same _)

  pub binding_id_alike : (i : ℕ) → i < m.rows 24 → Alike (binding_id_checks m i) (binding_id_checks (own m n s) i)
  unfolding binding_id_checks
  binding_id_alike i l = rw (s.bindings i l, s.bindings (i - 1) (omega arith)) (alike_same _)

  pub deadline_alike : (i : ℕ) → i < m.rows 25 → Alike (deadline_checks m i) (deadline_checks (own m n s) i)
  unfolding deadline_checks
  deadline_alike i l = rw (s.deadlines i l, s.deadlines (i - 1) (omega arith)) (alike_same _)
