-- The image of an enclave: what its check looks at, and no more. Assumes nothing.
use Rattle.std.specs.Prelude.{ℕ, ◌+◌, Bool, true, false, List, eqb, Option, option_map}
use Rattle.identity.specs.declared.IdentityPlace.{IdentityPlace}
use Rattle.identity.specs.Text.{identity_text}
use Rattle.range.specs.declared.SliceRange.{SliceRange}
use Rattle.schema.specs.Indexes.{ModeIndex}
use Rattle.schema.specs.Indexes.{BindingSlotIndex}
use Rattle.schema.specs.declared.index.ModeEffect.{ModeEffect}
use Rattle.schema.specs.declared.index.ActionTiming.{ActionTiming}
use Rattle.schema.specs.declared.index.ActionTiming.TheVariants.{Standard, Timer, Shutdown}
use Rattle.schema.specs.declared.index.RouteDirection.{RouteDirection}
use Rattle.schema.specs.declared.rows.ReactorImage.{ReactorImage}
use Rattle.schema.specs.declared.rows.ActionImage.{ActionImage}
use Rattle.schema.specs.declared.rows.PortImage.{PortImage}
use Rattle.schema.specs.declared.rows.ReactionImage.{ReactionImage}
use Rattle.schema.specs.declared.rows.ModeImage.{ModeImage}
use Rattle.schema.specs.declared.rows.ScopeImage.{ScopeImage}
use Rattle.schema.specs.declared.rows.RouteImage.{RouteImage}
use Rattle.schema.specs.declared.rows.RequiredBindingImage.{RequiredBindingImage}
use Rattle.schema.specs.declared.rows.DeadlineImage.{DeadlineImage}
use Rattle.schema.specs.declared.entries.LevelReactionImage.{LevelReactionImage}
use Rattle.schema.specs.declared.entries.LifecycleReactionImage.{LifecycleReactionImage}
use Rattle.schema.specs.declared.lent.Enclave.{Enclave}
use Rattle.schema.specs.Tables.{start_of, rows_of}
use Rattle.schema.specs.Rows.{enclave_at, reactor_at, action_at, port_at, reaction_at, mode_at, scope_at, index_at, level_at, startup_at, lifecycle_at, route_at, binding_at, deadline_at}

-- an action without its delay, domain and period
pub record ActionPart : Type 0 where
  pub scope : ℕ
  pub slot : ℕ
  pub standard : Bool
  pub binding : Option BindingSlotIndex
  pub triggers : SliceRange

abbrev pub is_standard : ActionTiming → Bool
is_standard (Standard d n) = true
is_standard (Timer p) = false
is_standard Shutdown = false

abbrev pub action_part : ActionImage → ActionPart
action_part a =
    record {
      scope = a.scope.0;
      slot = a.storage_slot;
      standard = is_standard a.timing;
      binding = a.binding;
      triggers = a.triggers;
    }

-- a reaction without its external effect and its effect's transition
pub record ReactionPart : Type 0 where
  pub reactor : ℕ
  pub scope : ℕ
  pub level : ℕ
  pub binding : ℕ
  pub uses : SliceRange
  pub effects : SliceRange
  pub actions : SliceRange
  pub enabled : SliceRange
  pub target : Option ModeIndex

abbrev pub effect_target : Option ModeEffect → Option ModeIndex
effect_target e = option_map (λ x. x.target) e

abbrev pub reaction_part : ReactionImage → ReactionPart
reaction_part r =
    record {
      reactor = r.reactor.0;
      scope = r.scope.0;
      level = r.dependency_level;
      binding = r.binding.0;
      uses = r.use_ports;
      effects = r.effect_ports;
      actions = r.actions;
      enabled = r.enabled_modes;
      target = effect_target r.mode_effect;
    }

-- a route without its domain and delay
pub record RoutePart : Type 0 where
  pub boundary : IdentityPlace
  pub port : ℕ
  pub direction : RouteDirection

abbrev pub route_part : RouteImage → RoutePart
route_part r = record { boundary = r.boundary; port = r.local_port.0; direction = r.direction }

-- a deadline without its nanoseconds, but for whether they are zero
pub record DeadlinePart : Type 0 where
  pub reaction : ℕ
  pub is_zero : Bool

abbrev pub deadline_part : DeadlineImage → DeadlinePart
deadline_part d = record { reaction = d.reaction.0; is_zero = eqb d.nanos 0 }

-- how many rows each table has; the rows, by their index, and those of a list table by table and index;
-- the text that an identity names; the two slot bounds
pub record Image : Type 0 where
  pub rows : ℕ → ℕ
  pub reactors : ℕ → ReactorImage
  pub actions : ℕ → ActionPart
  pub ports : ℕ → PortImage
  pub reactions : ℕ → ReactionPart
  pub modes : ℕ → ModeImage
  pub scopes : ℕ → ScopeImage
  pub indexes : ℕ → ℕ → ℕ
  pub levels : ℕ → ℕ → LevelReactionImage
  pub startups : ℕ → ℕ → ℕ
  pub lifecycles : ℕ → ℕ → LifecycleReactionImage
  pub routes : ℕ → RoutePart
  pub bindings : ℕ → RequiredBindingImage
  pub deadlines : ℕ → DeadlinePart
  pub enclave_id : IdentityPlace
  pub text : IdentityPlace → List ℕ
  pub state_slots : ℕ
  pub action_slots : ℕ

-- the rows of a table as functions of the index, where another row's checks need them
abbrev pub reactions_at : List ℕ → List ℕ → ℕ → ReactionPart
reactions_at p s i = reaction_part (reaction_at p (start_of s 5 + i))

abbrev pub modes_at : List ℕ → List ℕ → ℕ → ModeImage
modes_at p s i = mode_at p (start_of s 6 + i)

abbrev pub scopes_at : List ℕ → List ℕ → ℕ → ScopeImage
scopes_at p s i = scope_at p (start_of s 7 + i)

abbrev pub bindings_at : List ℕ → List ℕ → ℕ → RequiredBindingImage
bindings_at p s i = binding_at p (start_of s 24 + i)

-- row i of list table t, by what its records hold
abbrev pub stored_at : {A : Type 0} → (List ℕ → ℕ → A) → List ℕ → List ℕ → ℕ → ℕ → A
stored_at at p s t i = at p (start_of s t + i)

abbrev pub levels_at : List ℕ → List ℕ → ℕ → ℕ → LevelReactionImage
levels_at p s = stored_at level_at p s

abbrev pub lifecycles_at : List ℕ → List ℕ → ℕ → ℕ → LifecycleReactionImage
lifecycles_at p s = stored_at lifecycle_at p s

-- the image of the enclave whose record is record n of the pack p, and whose tables begin at s
abbrev pub image : List ℕ → List ℕ → List ℕ → List ℕ → ℕ → Image
image p batch house s n =
    record {
      rows = rows_of s;
      reactors = λ i. reactor_at p (start_of s 2 + i);
      actions = λ i. action_part (action_at p (start_of s 3 + i));
      ports = λ i. port_at p (start_of s 4 + i);
      reactions = reactions_at p s;
      modes = modes_at p s;
      scopes = scopes_at p s;
      indexes = λ t i. index_at p (start_of s t + i);
      levels = levels_at p s;
      startups = λ t i. (startup_at p (start_of s t + i)).action.0;
      lifecycles = lifecycles_at p s;
      routes = λ i. route_part (route_at p (start_of s 23 + i));
      bindings = bindings_at p s;
      deadlines = λ i. deadline_part (deadline_at p (start_of s 25 + i));
      enclave_id = (enclave_at p n).enclave_id;
      text = λ id. identity_text batch house id;
      state_slots = (enclave_at p n).storage_bounds.state_slots;
      action_slots = (enclave_at p n).storage_bounds.action_slots;
    }

-- the image of an enclave as it is lent
abbrev pub image_of : Enclave → Image
image_of e = image e.pack.bytes.now e.texts.batch.now e.texts.house.now e.starts.now.firsts e.own
