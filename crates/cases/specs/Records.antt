-- The record of a row: table, bits, kind and fields in the papers' order. Assumes nothing.
use Rattle.std.specs.Prelude.{ℕ, false, List, ◌++◌, is_some, unwrap_or}
use Rattle.std.specs.Option.{option_map_or}
use Rattle.identity.specs.declared.IdentityPlace.{IdentityPlace}
use Rattle.range.specs.declared.SliceRange.{SliceRange}
use Rattle.range.specs.declared.IndexSpan.{IndexSpan}
use Rattle.schema.specs.declared.index.BankInfoImage.{BankInfoImage}
use Rattle.schema.specs.declared.rows.FederateImage.{FederateImage}
use Rattle.schema.specs.declared.rows.EnclaveImage.{EnclaveImage}
use Rattle.schema.specs.declared.rows.ReactorImage.{ReactorImage}
use Rattle.schema.specs.declared.rows.ActionImage.{ActionImage}
use Rattle.schema.specs.declared.rows.PortImage.{PortImage}
use Rattle.schema.specs.declared.rows.ReactionImage.{ReactionImage}
use Rattle.schema.specs.declared.rows.ModeImage.{ModeImage}
use Rattle.schema.specs.declared.rows.ScopeImage.{ScopeImage}
use Rattle.schema.specs.declared.rows.RouteImage.{RouteImage}
use Rattle.schema.specs.declared.rows.RequiredBindingImage.{RequiredBindingImage}
use Rattle.schema.specs.declared.rows.DeadlineImage.{DeadlineImage}
use Rattle.schema.specs.declared.entries.LevelReactionImage.{LevelReactionImage}
use Rattle.cases.specs.Packs.{W, D, rec}
use Rattle.cases.specs.Fields.{bits, three_bits, timing_kind, has_period, timing_nanos, transition_kind, physical, outbound, binding_kind}

abbrev pub range : SliceRange → List ℕ
range r = W r.start ++ W r.len

abbrev pub span : IndexSpan → List ℕ
span r = D r.start ++ D r.len

abbrev pub place : IdentityPlace → List ℕ
place id = W id.start ++ W id.len

abbrev pub federate_record : FederateImage → List ℕ
federate_record row =
    rec 0 (three_bits row.id.house row.target.house row.runtime.house) 0 (place row.id ++ place row.target ++ place row.runtime ++ span row.enclaves.0)

abbrev pub enclave_record : EnclaveImage → List ℕ
enclave_record row =
    rec 1 (bits row.enclave_id.house false) 0
    (place row.enclave_id
    ++ W row.storage_bounds.state_slots
    ++ W row.storage_bounds.action_slots
    ++ W row.storage_bounds.event_capacity
    ++ D row.storage_bounds.payload_bytes
    ++ D row.storage_bounds.state_bytes
    ++ D row.storage_bounds.scratch_bytes)

abbrev no_bank : BankInfoImage
no_bank = record { index = 0; total = 0 }

abbrev pub reactor_record : ReactorImage → List ℕ
reactor_record row =
    rec 2 (bits (is_some row.initial_mode) (is_some row.bank)) 0
    (W row.state_binding.0
    ++ W row.state_slot
    ++ W row.root_scope.0
    ++ span row.modes.0
    ++ W (option_map_or (λ mode. mode.0) row.initial_mode 0)
    ++ W (unwrap_or row.bank no_bank).index
    ++ W (unwrap_or row.bank no_bank).total)

abbrev pub action_record : ActionImage → List ℕ
action_record row =
    rec 3 (bits (is_some row.binding) (has_period row.timing)) (timing_kind row.timing)
    (W row.scope.0
    ++ W row.storage_slot
    ++ W (option_map_or (λ binding. binding.0) row.binding 0)
    ++ D (timing_nanos row.timing)
    ++ range row.triggers)

abbrev pub port_record : PortImage → List ℕ
port_record row = rec 4 0 0 (W row.binding.0 ++ W row.scope.0 ++ range row.triggers)

abbrev pub reaction_record : ReactionImage → List ℕ
reaction_record row =
    rec 5 (bits row.external_effect (is_some row.mode_effect)) (option_map_or (λ effect. transition_kind effect.transition) row.mode_effect 0)
    (W row.reactor.0
    ++ W row.scope.0
    ++ W row.dependency_level
    ++ W row.binding.0
    ++ range row.use_ports
    ++ range row.effect_ports
    ++ range row.actions
    ++ range row.enabled_modes
    ++ W (option_map_or (λ effect. effect.target.0) row.mode_effect 0))

abbrev pub mode_record : ModeImage → List ℕ
mode_record row = rec 6 0 0 (W row.reactor.0 ++ W row.scope.0)

abbrev pub scope_record : ScopeImage → List ℕ
scope_record row =
    rec 7 (bits (is_some row.parent) (is_some row.mode)) 0
    (W (option_map_or (λ parent. parent.0) row.parent 0)
    ++ W row.reactor.0
    ++ W (option_map_or (λ mode. mode.0) row.mode 0)
    ++ range row.descendants
    ++ range row.logical_actions
    ++ range row.timer_startups
    ++ range row.reset_reactions
    ++ range row.startup_reactions
    ++ range row.shutdown_reactions)

abbrev pub trigger_record : LevelReactionImage → List ℕ
trigger_record row = rec 8 0 0 (W row.level ++ W row.reaction.0)

abbrev pub route_record : RouteImage → List ℕ
route_record row =
    rec 23 (bits row.boundary.house false) (bits (outbound row.direction) (physical row.timing_domain))
    (place row.boundary ++ W row.local_port.0 ++ D row.delay_nanos)

abbrev pub binding_record : RequiredBindingImage → List ℕ
binding_record row = rec 24 (bits row.id.house false) (binding_kind row.kind) (place row.id)

abbrev pub deadline_record : DeadlineImage → List ℕ
deadline_record row = rec 25 0 0 (W row.reaction.0 ++ D row.nanos)
