-- Names for definitions that the proofs over all passes open together. Assumes nothing.
use Rattle.std.specs.Prelude.{⊤}
use Rattle.checks.specs.Refs.{span_checks}
use Rattle.checks.specs.Lists.{listed_checks, range_of_checks}
use Rattle.row_checks.specs.Bindings.{binding_checks}
use Rattle.row_checks.specs.Reactors.{slot_checks, root_scope_checks, reactor_row, reactor_checks}
use Rattle.row_checks.specs.Actions.{action_row, action_checks}
use Rattle.row_checks.specs.Ports.{port_row, port_checks}
use Rattle.row_checks.specs.Reactions.{reaction_owner_checks, reaction_range_checks as four_range_checks, reaction_row, reaction_checks}
use Rattle.row_checks.specs.Modes.{mode_owner_checks, mode_row, mode_checks}
use Rattle.scope_checks.specs.Ends.{member_range_checks, reaction_range_checks}
use Rattle.scope_checks.specs.Scopes.{scope_owner_checks, scope_row_checks, scope_checks}
use Rattle.scope_checks.specs.Links.{cycle_checks}
use Rattle.list_checks.specs.ListTables.{named_checks, index_checks, startup_checks, trigger_checks, action_trigger_checks, port_trigger_checks, enabled_mode_checks, enabled_modes_checks, scope_list_checks, listed_entry_checks, level_entry_checks, lifecycle_entry_checks, index_order_checks, shutdown_action_checks}
use Rattle.list_checks.specs.Routes.{route_order_checks, route_row, route_checks, binding_id_row, binding_id_checks}
use Rattle.list_checks.specs.Deadlines.{deadline_checks}
use Rattle.enclave.specs.Passes.{head_passes, table_passes, row_passes, scope_passes, reaction_list_passes, scope_list_passes, entry_passes, enclave_list_passes, list_passes, passes}

-- the whole order
unfoldable pub the_passes : ⊤
unfolding passes head_passes table_passes row_passes scope_passes reaction_list_passes scope_list_passes entry_passes enclave_list_passes list_passes
the_passes = tt

-- the passes over rows
unfoldable pub the_rows : ⊤
unfolding
    reactor_checks reactor_row
    action_checks action_row
    port_checks port_row
    reaction_checks reaction_row reaction_owner_checks
    mode_checks mode_row
    scope_checks scope_row_checks scope_owner_checks
the_rows = tt

-- the other passes
unfoldable pub the_lists : ⊤
unfolding
    cycle_checks named_checks index_checks startup_checks
    action_trigger_checks port_trigger_checks trigger_checks range_of_checks listed_checks
    enabled_modes_checks enabled_mode_checks scope_list_checks
    level_entry_checks lifecycle_entry_checks listed_entry_checks shutdown_action_checks
    route_checks binding_id_checks deadline_checks
the_lists = tt

-- the lists that a row's or an entry's checks are made of, but for those of optional fields
unfoldable pub the_parts : ⊤
unfolding
    span_checks binding_checks slot_checks root_scope_checks four_range_checks mode_owner_checks
    member_range_checks reaction_range_checks
    index_order_checks route_order_checks route_row binding_id_row
the_parts = tt
