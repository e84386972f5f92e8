-- The rows of the tables: record n of a pack is its 64 bytes from 64 n, read by the layout of its table. Assumes nothing.
use Rattle.std.specs.Prelude.{ℕ, ◌+◌, ◌*◌, Bool, cond, List, eqb}
use Rattle.std.specs.Bool.{then_some}
use Rattle.identity.specs.declared.IdentityPlace.{IdentityPlace}
use Rattle.range.specs.declared.SliceRange.{SliceRange}
use Rattle.range.specs.declared.IndexSpan.{IndexSpan}
use Rattle.schema.specs.declared.index.Transition.{Transition}
use Rattle.schema.specs.declared.index.Transition.TheVariants.{Reset, History}
use Rattle.schema.specs.declared.index.TimingDomain.{TimingDomain}
use Rattle.schema.specs.declared.index.TimingDomain.TheVariants.{Logical, Physical}
use Rattle.schema.specs.declared.index.ActionTiming.{ActionTiming}
use Rattle.schema.specs.declared.index.ActionTiming.TheVariants.{Standard, Timer, Shutdown}
use Rattle.schema.specs.declared.index.RouteDirection.{RouteDirection}
use Rattle.schema.specs.declared.index.RouteDirection.TheVariants.{Inbound, Outbound}
use Rattle.schema.specs.declared.index.BindingKind.{BindingKind}
use Rattle.schema.specs.declared.index.BindingKind.TheVariants.{StateInitializer, Reaction, Port, Action}
use Rattle.schema.specs.declared.rows.FederateImage.{FederateImage}
use Rattle.schema.specs.declared.rows.EnclaveImage.{EnclaveImage}
use Rattle.schema.specs.declared.rows.ReactorImage.{ReactorImage}
use Rattle.schema.specs.declared.rows.ActionImage.{ActionImage}
use Rattle.schema.specs.declared.rows.PortImage.{PortImage}
use Rattle.schema.specs.declared.rows.ReactionImage.{ReactionImage}
use Rattle.schema.specs.declared.rows.ModeImage.{ModeImage}
use Rattle.schema.specs.declared.rows.ScopeImage.{ScopeImage}
use Rattle.schema.specs.declared.rows.RouteImage.{RouteImage}
use Rattle.schema.specs.declared.rows.RequiredBindingImage.{RequiredBindingImage}
use Rattle.schema.specs.declared.rows.DeadlineImage.{DeadlineImage}
use Rattle.schema.specs.declared.entries.LevelReactionImage.{LevelReactionImage}
use Rattle.schema.specs.declared.entries.TimerStartupImage.{TimerStartupImage}
use Rattle.schema.specs.declared.entries.LifecycleReactionImage.{LifecycleReactionImage}
use Rattle.schema.specs.Bytes.{byte_of, bit_of}
use Rattle.schema.specs.Number.{number}
use Rattle.schema.specs.Layout as layout
use Rattle.schema.specs.Layout.{Layout, bytes, offset, field_at}

-- field k of record n
abbrev pub field : List ℕ → ℕ → Layout → ℕ → ℕ
field p n l k = number (bytes (field_at l k)) p (n * 64 + offset l k)

-- what two fields in a row are: a range, a span, an identity's place
abbrev pub range : (ℕ → ℕ) → ℕ → SliceRange
range f k = record { start = f k; len = f (k + 1) }

abbrev pub span : (ℕ → ℕ) → ℕ → IndexSpan
span f k = record { start = f k; len = f (k + 1) }

abbrev pub place : Bool → (ℕ → ℕ) → ℕ → IdentityPlace
place house f k = record { house = house; start = f k; len = f (k + 1) }

-- kinds, by byte 2; then_some b x is x where the bit b is 1, and none where it is 0
abbrev pub transition_of : ℕ → Transition
transition_of k = cond (eqb k 0) Reset History

abbrev pub timing_of : ℕ → Bool → ℕ → ActionTiming
timing_of k present d =
    cond (eqb k 0) (Standard Logical d)
    (cond (eqb k 1) (Standard Physical d)
    (cond (eqb k 2) (Timer (then_some present d)) Shutdown))

abbrev pub kind_of : ℕ → BindingKind
kind_of k =
    cond (eqb k 0) StateInitializer (cond (eqb k 1) Reaction (cond (eqb k 2) Port Action))

abbrev pub direction_of : Bool → RouteDirection
direction_of outbound = cond outbound Outbound Inbound

abbrev pub domain_of : Bool → TimingDomain
domain_of physical = cond physical Physical Logical

-- The row of each table: f is its fields in order, b is byte 1 and k is byte 2

-- table 0
abbrev pub federate_of : (ℕ → ℕ) → ℕ → ℕ → FederateImage
federate_of f b k =
    record {
      id = place (bit_of b 0) f 0;
      target = place (bit_of b 1) f 2;
      runtime = place (bit_of b 2) f 4;
      enclaves = record { 0 = span f 6 };
    }

-- table 1
abbrev pub enclave_of : (ℕ → ℕ) → ℕ → ℕ → EnclaveImage
enclave_of f b k =
    record {
      enclave_id = place (bit_of b 0) f 0;
      storage_bounds =
          record {
            state_slots = f 2;
            action_slots = f 3;
            event_capacity = f 4;
            payload_bytes = f 5;
            state_bytes = f 6;
            scratch_bytes = f 7;
          };
    }

-- table 2
abbrev pub reactor_of : (ℕ → ℕ) → ℕ → ℕ → ReactorImage
reactor_of f b k =
    record {
      state_binding = record { 0 = f 0 };
      state_slot = f 1;
      root_scope = record { 0 = f 2 };
      modes = record { 0 = span f 3 };
      initial_mode = then_some (bit_of b 0) (record { 0 = f 5 });
      bank = then_some (bit_of b 1) (record { index = f 6; total = f 7 });
    }

-- table 3
abbrev pub action_of : (ℕ → ℕ) → ℕ → ℕ → ActionImage
action_of f b k =
    record {
      scope = record { 0 = f 0 };
      storage_slot = f 1;
      binding = then_some (bit_of b 0) (record { 0 = f 2 });
      timing = timing_of k (bit_of b 1) (f 3);
      triggers = range f 4;
    }

-- table 4
abbrev pub port_of : (ℕ → ℕ) → ℕ → ℕ → PortImage
port_of f b k =
    record {
      binding = record { 0 = f 0 };
      scope = record { 0 = f 1 };
      triggers = range f 2;
    }

-- table 5
abbrev pub reaction_of : (ℕ → ℕ) → ℕ → ℕ → ReactionImage
reaction_of f b k =
    record {
      external_effect = bit_of b 0;
      reactor = record { 0 = f 0 };
      scope = record { 0 = f 1 };
      dependency_level = f 2;
      binding = record { 0 = f 3 };
      use_ports = range f 4;
      effect_ports = range f 6;
      actions = range f 8;
      enabled_modes = range f 10;
      mode_effect = then_some (bit_of b 1) (record { transition = transition_of k; target = record { 0 = f 12 } });
    }

-- table 6
abbrev pub mode_of : (ℕ → ℕ) → ℕ → ℕ → ModeImage
mode_of f b k =
    record {
      reactor = record { 0 = f 0 };
      scope = record { 0 = f 1 };
    }

-- table 7
abbrev pub scope_of : (ℕ → ℕ) → ℕ → ℕ → ScopeImage
scope_of f b k =
    record {
      parent = then_some (bit_of b 0) (record { 0 = f 0 });
      reactor = record { 0 = f 1 };
      mode = then_some (bit_of b 1) (record { 0 = f 2 });
      descendants = range f 3;
      logical_actions = range f 5;
      timer_startups = range f 7;
      reset_reactions = range f 9;
      startup_reactions = range f 11;
      shutdown_reactions = range f 13;
    }

-- tables 9, 10, 11, 12, 13, 14 and 22
abbrev pub index_of : (ℕ → ℕ) → ℕ → ℕ → ℕ
index_of f b k = f 0

-- tables 8 and 16
abbrev pub level_of : (ℕ → ℕ) → ℕ → ℕ → LevelReactionImage
level_of f b k =
    record { level = f 0; reaction = record { 0 = f 1 } }

-- tables 15, 19 and 20
abbrev pub startup_of : (ℕ → ℕ) → ℕ → ℕ → TimerStartupImage
startup_of f b k =
    record {
      action = record { 0 = f 0 };
      logical_delay_nanos = f 1;
    }

-- tables 17, 18 and 21
abbrev pub lifecycle_of : (ℕ → ℕ) → ℕ → ℕ → LifecycleReactionImage
lifecycle_of f b k =
    record {
      reaction =
          record {
            level = f 0;
            reaction = record { 0 = f 1 };
          };
      action = record { 0 = f 2 };
    }

-- table 23
abbrev pub route_of : (ℕ → ℕ) → ℕ → ℕ → RouteImage
route_of f b k =
    record {
      boundary = place (bit_of b 0) f 0;
      local_port = record { 0 = f 2 };
      direction = direction_of (bit_of k 0);
      timing_domain = domain_of (bit_of k 1);
      delay_nanos = f 3;
    }

-- table 24
abbrev pub binding_of : (ℕ → ℕ) → ℕ → ℕ → RequiredBindingImage
binding_of f b k =
    record {
      id = place (bit_of b 0) f 0;
      kind = kind_of k;
    }

-- table 25
abbrev pub deadline_of : (ℕ → ℕ) → ℕ → ℕ → DeadlineImage
deadline_of f b k =
    record {
      reaction = record { 0 = f 0 };
      nanos = f 1;
    }

-- record n of the pack p, as a row of the given layout
abbrev pub row : {A : Type 0} → ((ℕ → ℕ) → ℕ → ℕ → A) → Layout → List ℕ → ℕ → A
row of l p n = of (field p n l) (byte_of p n 1) (byte_of p n 2)

-- the row of a record of zeros
abbrev pub empty : {A : Type 0} → ((ℕ → ℕ) → ℕ → ℕ → A) → A
empty of = of (λ k. 0) 0 0

unfoldable pub federate_at : List ℕ → ℕ → FederateImage
federate_at p n = row federate_of layout.federate p n

unfoldable pub enclave_at : List ℕ → ℕ → EnclaveImage
enclave_at p n = row enclave_of layout.enclave p n

unfoldable pub reactor_at : List ℕ → ℕ → ReactorImage
reactor_at p n = row reactor_of layout.reactors p n

unfoldable pub action_at : List ℕ → ℕ → ActionImage
action_at p n = row action_of layout.actions p n

unfoldable pub port_at : List ℕ → ℕ → PortImage
port_at p n = row port_of layout.ports p n

unfoldable pub reaction_at : List ℕ → ℕ → ReactionImage
reaction_at p n = row reaction_of layout.reactions p n

unfoldable pub mode_at : List ℕ → ℕ → ModeImage
mode_at p n = row mode_of layout.modes p n

unfoldable pub scope_at : List ℕ → ℕ → ScopeImage
scope_at p n = row scope_of layout.scopes p n

unfoldable pub index_at : List ℕ → ℕ → ℕ
index_at p n = row index_of layout.indexes p n

unfoldable pub level_at : List ℕ → ℕ → LevelReactionImage
level_at p n = row level_of layout.levels p n

unfoldable pub startup_at : List ℕ → ℕ → TimerStartupImage
startup_at p n = row startup_of layout.startups p n

unfoldable pub lifecycle_at : List ℕ → ℕ → LifecycleReactionImage
lifecycle_at p n = row lifecycle_of layout.lifecycles p n

unfoldable pub route_at : List ℕ → ℕ → RouteImage
route_at p n = row route_of layout.routes p n

unfoldable pub binding_at : List ℕ → ℕ → RequiredBindingImage
binding_at p n = row binding_of layout.bindings p n

unfoldable pub deadline_at : List ℕ → ℕ → DeadlineImage
deadline_at p n = row deadline_of layout.deadlines p n
