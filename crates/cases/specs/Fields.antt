-- What a row's bits, kinds and optional fields are in its record (document 01, "The pack"). Assumes nothing.
use Rattle.std.specs.Prelude.{ℕ, ◌+◌, Bool, true, false, is_some, unwrap_or}
use Rattle.schema.specs.declared.index.Transition.{Transition}
use Rattle.schema.specs.declared.index.Transition.TheVariants.{Reset, History}
use Rattle.schema.specs.declared.index.TimingDomain.{TimingDomain}
use Rattle.schema.specs.declared.index.TimingDomain.TheVariants.{Logical, Physical}
use Rattle.schema.specs.declared.index.ActionTiming.{ActionTiming}
use Rattle.schema.specs.declared.index.ActionTiming.TheVariants.{Standard, Timer, Shutdown}
use Rattle.schema.specs.declared.index.RouteDirection.{RouteDirection}
use Rattle.schema.specs.declared.index.RouteDirection.TheVariants.{Inbound, Outbound}
use Rattle.schema.specs.declared.index.BindingKind.{BindingKind}
use Rattle.schema.specs.declared.index.BindingKind.TheVariants.{StateInitializer, Reaction, Port, Action}

-- two bits of a byte, the lowest first
abbrev pub bits : Bool → Bool → ℕ
bits false false = 0
bits true false = 1
bits false true = 2
bits true true = 3

-- three bits, the lowest first
abbrev pub three_bits : Bool → Bool → Bool → ℕ
three_bits low middle false = bits low middle
three_bits low middle true = 4 + bits low middle

abbrev pub physical : TimingDomain → Bool
physical Logical = false
physical Physical = true

abbrev pub outbound : RouteDirection → Bool
outbound Inbound = false
outbound Outbound = true

-- an action's kind, its period bit, and its minimum delay or period
abbrev pub timing_kind : ActionTiming → ℕ
timing_kind (Standard d n) = bits (physical d) false
timing_kind (Timer p) = 2
timing_kind Shutdown = 3

abbrev pub has_period : ActionTiming → Bool
has_period (Standard d n) = false
has_period (Timer p) = is_some p
has_period Shutdown = false

abbrev pub timing_nanos : ActionTiming → ℕ
timing_nanos (Standard d n) = n
timing_nanos (Timer p) = unwrap_or p 0
timing_nanos Shutdown = 0

abbrev pub transition_kind : Transition → ℕ
transition_kind Reset = 0
transition_kind History = 1

abbrev pub binding_kind : BindingKind → ℕ
binding_kind StateInitializer = 0
binding_kind Reaction = 1
binding_kind Port = 2
binding_kind Action = 3
