-- What a row says whose checks pass: reactors, actions, ports, reactions, modes and scopes. Assumes nothing.
use Prim.Native.Nat.{ℕ, ◌<◌}
use mathlib.Core.Bool.{true, true≢false, ◌&&◌}
use mathlib.Core.Path.{◌≡◌, refl, sym, ap}
use mathlib.Core.List.{List, ◌∷◌, ◌++◌}
use lib.Dec.{eqb}
use borrow.Author.Tests.{eqb-true}
use Rattle.std.specs.Prelude.{Option, Some, None, is_none}
use Rattle.identity.proofs.Tests.{both}
use Rattle.range.specs.Range.{contains}
use Rattle.answers.specs.declared.Refusal.{Refusal}
use Rattle.answers.specs.Checks.{Check, need}
use Rattle.answers.proofs.Passed.{Passes, test, rest, below, equal, parts}
use Rattle.schema.specs.Indexes.{ModeIndex, ScopeIndex}
use Rattle.schema.specs.declared.index.BindingKind.TheVariants.{StateInitializer, Reaction, Port}
use Rattle.checks.specs.Image.{Image}
use Rattle.checks.specs.Refs.{range_end, span_end, end_before}
use Rattle.checks.proofs.Fits.{Fits, RangeFits, fits}
use Rattle.row_checks.specs.Bindings.{same_kind}
use Rattle.row_checks.specs.Reactors.{initial_mode_checks, bank_checks, reactor_checks}
use Rattle.row_checks.specs.Actions.{action_binding_checks, action_checks}
use Rattle.row_checks.specs.Ports.{port_checks}
use Rattle.row_checks.specs.Reactions.{effect_checks, reaction_ends_before, reaction_range_checks as four_range_checks, reaction_checks}
use Rattle.row_checks.specs.Modes.{is_mode, mode_checks}
use Rattle.scope_checks.specs.Ends.{ends_before, member_range_checks, reaction_range_checks}
use Rattle.scope_checks.specs.Scopes.{parent_checks, scope_mode_checks, scope_checks}
use Rattle.enclave.proofs.Opened.{the_rows, the_parts}

-- a mode, or none
no_mode : (x : Option ModeIndex) → is_none x ≡ true → x ≡ None
no_mode None e = refl
no_mode (Some j) e = absurd (true≢false (sym e))

the_mode : (i : ℕ) (x : Option ModeIndex) → is_mode i x ≡ true → x ≡ Some (record { 0 = i })
the_mode i None e = absurd (true≢false (sym e))
the_mode i (Some j) e = ap (λ (k : ℕ). Some (record { 0 = k })) (eqb-true j.0 i e)

-- two tests of equality in one
two : {a b c d : ℕ} {r : Refusal} {cs : List Check} → Passes (need (eqb a b && eqb c d) r ∷ cs) → (a ≡ b) × (c ≡ d)
two {a} {b} {c} {d} h = let e = both (eqb a b) (eqb c d) (test h) in (eqb-true a b e.0, eqb-true c d e.1)

-- row i of reactors
pub record ReactorHolds (m : Image) (i : ℕ) : Type 0 where
  pub binding : (m.reactors i).state_binding.0 < m.rows 24
  pub kind : same_kind (m.bindings (m.reactors i).state_binding.0).kind StateInitializer ≡ true
  pub slot : (m.reactors i).state_slot < m.state_slots
  pub root : (m.reactors i).root_scope.0 < m.rows 7
  pub root_own : (m.scopes (m.reactors i).root_scope.0).reactor.0 ≡ i
  pub root_plain : (m.scopes (m.reactors i).root_scope.0).mode ≡ None
  pub modes : Fits (m.reactors i).modes.0.start (m.reactors i).modes.0.len (m.rows 6) (end_before (λ j. span_end (m.reactors j).modes.0) i)
  pub initial : (j : ModeIndex) → (m.reactors i).initial_mode ≡ Some j
      → (j.0 < m.rows 6) × (contains (m.reactors i).modes.0.start (m.reactors i).modes.0.len j.0 ≡ true)
  pub bank : Passes (bank_checks i (m.reactors i).bank)

pub reactor_holds : (m : Image) (i : ℕ) → Passes (reactor_checks m i) → ReactorHolds m i
unfolding the_rows the_parts initial_mode_checks
reactor_holds m i h =
    let row = m.reactors i in
    let at_slot = rest (rest h) in
    let at_root = rest at_slot in
    let at_modes = rest (rest at_root) in
    let root = both (eqb (m.scopes row.root_scope.0).reactor.0 i) _ (test (rest at_root)) in
    let last = parts (initial_mode_checks m.rows i row.modes.0 row.initial_mode) (bank_checks i row.bank) (rest (rest at_modes)) in
    record {
      binding = below h;
      kind = test (rest h);
      slot = below at_slot;
      root = below at_root;
      root_own = eqb-true _ i root.0;
      root_plain = no_mode _ root.1;
      modes = fits at_modes;
      initial = λ j e. let x = rw e at last.0 in (below x, test (rest x));
      bank = last.1;
    }

-- row i of actions
pub record ActionHolds (m : Image) (i : ℕ) : Type 0 where
  pub scope : (m.actions i).scope < m.rows 7
  pub slot : (m.actions i).slot < m.action_slots
  pub binding : Passes (action_binding_checks m.rows m.bindings i (m.actions i).standard (m.actions i).binding)
  pub triggers : RangeFits (m.actions i).triggers (m.rows 8) (end_before (λ j. range_end (m.actions j).triggers) i)

pub action_holds : (m : Image) (i : ℕ) → Passes (action_checks m i) → ActionHolds m i
unfolding the_rows the_parts
action_holds m i h =
    let last = parts (action_binding_checks m.rows m.bindings i (m.actions i).standard (m.actions i).binding) _ (rest (rest h)) in
    record { scope = below h; slot = below (rest h); binding = last.0; triggers = fits last.1 }

-- row i of ports
pub record PortHolds (m : Image) (i : ℕ) : Type 0 where
  pub binding : (m.ports i).binding.0 < m.rows 24
  pub kind : same_kind (m.bindings (m.ports i).binding.0).kind Port ≡ true
  pub scope : (m.ports i).scope.0 < m.rows 7
  pub triggers : RangeFits (m.ports i).triggers (m.rows 8) (end_before (λ j. range_end (m.ports j).triggers) i)

pub port_holds : (m : Image) (i : ℕ) → Passes (port_checks m i) → PortHolds m i
unfolding the_rows the_parts
port_holds m i h =
    let at_scope = rest (rest h) in
    record { binding = below h; kind = test (rest h); scope = below at_scope; triggers = fits (rest at_scope) }

-- row i of reactions
pub record ReactionHolds (m : Image) (i : ℕ) : Type 0 where
  pub reactor : (m.reactions i).reactor < m.rows 2
  pub scope : (m.reactions i).scope < m.rows 7
  pub binding : (m.reactions i).binding < m.rows 24
  pub kind : same_kind (m.bindings (m.reactions i).binding).kind Reaction ≡ true
  pub scope_reactor : (m.scopes (m.reactions i).scope).reactor.0 ≡ (m.reactions i).reactor
  pub target : (j : ModeIndex) → (m.reactions i).target ≡ Some j → (j.0 < m.rows 6) × ((m.modes j.0).reactor.0 ≡ (m.reactions i).reactor)
  pub uses : RangeFits (m.reactions i).uses (m.rows 9) (end_before (λ j. range_end (m.reactions j).uses) i)
  pub effects : RangeFits (m.reactions i).effects (m.rows 10) (end_before (λ j. range_end (m.reactions j).effects) i)
  pub actions : RangeFits (m.reactions i).actions (m.rows 11) (end_before (λ j. range_end (m.reactions j).actions) i)
  pub enabled : RangeFits (m.reactions i).enabled (m.rows 12) (end_before (λ j. range_end (m.reactions j).enabled) i)

pub reaction_holds : (m : Image) (i : ℕ) → Passes (reaction_checks m i) → ReactionHolds m i
unfolding the_rows the_parts effect_checks reaction_ends_before
reaction_holds m i h =
    let row = m.reactions i in
    let at_binding = rest (rest h) in
    let at_owner = rest (rest at_binding) in
    let ranges = four_range_checks m.rows i row (reaction_ends_before m.reactions i) in
    let last = parts (effect_checks m.rows m.modes i row.reactor row.target) ranges (rest at_owner) in
    let at_effects = rest (rest last.1) in
    let at_actions = rest (rest at_effects) in
    record {
      reactor = below h;
      scope = below (rest h);
      binding = below at_binding;
      kind = test (rest at_binding);
      scope_reactor = equal at_owner;
      target = λ j e. let x = rw e at last.0 in (below x, equal (rest x));
      uses = fits last.1;
      effects = fits at_effects;
      actions = fits at_actions;
      enabled = fits (rest (rest at_actions));
    }

-- row i of modes
pub record ModeHolds (m : Image) (i : ℕ) : Type 0 where
  pub reactor : (m.modes i).reactor.0 < m.rows 2
  pub scope : (m.modes i).scope.0 < m.rows 7
  pub scope_reactor : (m.scopes (m.modes i).scope.0).reactor.0 ≡ (m.modes i).reactor.0
  pub scope_mode : (m.scopes (m.modes i).scope.0).mode ≡ Some (record { 0 = i })
  pub held : contains (m.reactors (m.modes i).reactor.0).modes.0.start (m.reactors (m.modes i).reactor.0).modes.0.len i ≡ true

pub mode_holds : (m : Image) (i : ℕ) → Passes (mode_checks m i) → ModeHolds m i
unfolding the_rows the_parts
mode_holds m i h =
    let at_owner = rest (rest h) in
    let at_mode = rest at_owner in
    record {
      reactor = below h;
      scope = below (rest h);
      scope_reactor = equal at_owner;
      scope_mode = the_mode i _ (test at_mode);
      held = test (rest at_mode);
    }

-- row i of scopes
pub record ScopeHolds (m : Image) (i : ℕ) : Type 0 where
  pub reactor : (m.scopes i).reactor.0 < m.rows 2
  pub parent : (s : ScopeIndex) → (m.scopes i).parent ≡ Some s → s.0 < m.rows 7
  pub mode : (j : ModeIndex) → (m.scopes i).mode ≡ Some j → (j.0 < m.rows 6) × ((m.modes j.0).scope.0 ≡ i) × ((m.modes j.0).reactor.0 ≡ (m.scopes i).reactor.0)
  pub descendants : RangeFits (m.scopes i).descendants (m.rows 13) (ends_before m.scopes i).descendants
  pub logical_actions : RangeFits (m.scopes i).logical_actions (m.rows 14) (ends_before m.scopes i).logical_actions
  pub timer_startups : RangeFits (m.scopes i).timer_startups (m.rows 15) (ends_before m.scopes i).timer_startups
  pub reset_reactions : RangeFits (m.scopes i).reset_reactions (m.rows 16) (ends_before m.scopes i).reset_reactions
  pub startup_reactions : RangeFits (m.scopes i).startup_reactions (m.rows 17) (ends_before m.scopes i).startup_reactions
  pub shutdown_reactions : RangeFits (m.scopes i).shutdown_reactions (m.rows 18) (ends_before m.scopes i).shutdown_reactions

pub scope_holds : (m : Image) (i : ℕ) → Passes (scope_checks m i) → ScopeHolds m i
unfolding the_rows the_parts parent_checks scope_mode_checks
scope_holds m i h =
    let row = m.scopes i in
    let ends = ends_before m.scopes i in
    let own = parent_checks m.rows i row.parent in
    let mode = scope_mode_checks m.rows m.modes i row.reactor.0 row.mode in
    let members = member_range_checks m.rows i row ends in
    let reactions = reaction_range_checks m.rows i row ends in
    let owner = parts (own ++ mode) (members ++ reactions) (rest h) in
    let optional = parts own mode owner.0 in
    let ranges = parts members reactions owner.1 in
    let at_actions = rest (rest ranges.0) in
    let at_startups = rest (rest ranges.1) in
    record {
      reactor = below h;
      parent = λ s e. let x = rw e at optional.0 in below x;
      mode = λ j e. let x = rw e at optional.1 in let y = two (rest x) in (below x, y.0, y.1);
      descendants = fits ranges.0;
      logical_actions = fits at_actions;
      timer_startups = fits (rest (rest at_actions));
      reset_reactions = fits ranges.1;
      startup_reactions = fits at_startups;
      shutdown_reactions = fits (rest (rest at_startups));
    }
