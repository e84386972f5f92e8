-- The P lines of document 01, for stations and lines, as one list with one proof. Assumes nothing.
use Rattle.std.specs.Prelude.{ℕ, Bool, true, false, ◌&&◌, List, [], ◌∷◌, ◌++◌, T, eqb}
use Rattle.identity.specs.Utf8.{allowed, scalar_at, decode_after}
use Rattle.identity.specs.Unicode.{control, white_space}
use Rattle.identity.specs.Identity.{valid_scalars}
use Rattle.identity.specs.Order.{compared}
use Rattle.range.specs.Range.{checked_end, saturating_end, contains}
use Rattle.answers.specs.Numbers.{numbers}
use Rattle.answers.specs.Checks.{first, run}
use Rattle.schema.specs.Number.{number}
use Rattle.schema.specs.Records.{count_below}
use Rattle.schema.specs.Layout.{layouts}
use Rattle.schema.specs.Rows.{federate_at, enclave_at, reactor_at, action_at, port_at, reaction_at, mode_at, scope_at, index_at, level_at, startup_at, lifecycle_at, route_at, binding_at, deadline_at}
use Rattle.packing.specs.declared.PackKind.{PackKind}
use Rattle.packing.specs.declared.PackKind.TheVariants.{Enclave, Federate}
use Rattle.packing.specs.Clean.{zeros, clean}
use Rattle.packing.specs.Packing.{identity_checks, record_checks, packing_checks}
use Rattle.packing.specs.Starts.{first_reaching, starts_below, table_starts}
use Rattle.checks.specs.Refs.{span_checks}
use Rattle.checks.specs.Lists.{listed_checks, range_of_checks}
use Rattle.row_checks.specs.Bindings.{binding_checks}
use Rattle.row_checks.specs.Reactors.{slot_checks, root_scope_checks, initial_mode_checks, bank_checks, reactor_row, reactor_checks}
use Rattle.row_checks.specs.Actions.{action_binding_checks, action_row, action_checks}
use Rattle.row_checks.specs.Ports.{port_row, port_checks}
use Rattle.row_checks.specs.Reactions as reactions
use Rattle.row_checks.specs.Reactions.{effect_checks, reaction_owner_checks, reaction_ends_before, reaction_row, reaction_checks}
use Rattle.row_checks.specs.Modes.{mode_owner_checks, mode_row, mode_checks}
use Rattle.scope_checks.specs.Ends.{ends_before, member_range_checks, reaction_range_checks}
use Rattle.scope_checks.specs.Scopes.{parent_checks, scope_mode_checks, scope_owner_checks, scope_row_checks, scope_checks}
use Rattle.scope_checks.specs.Links.{followed, links_below, cycle_checks}
use Rattle.list_checks.specs.ListTables.{named_checks, trigger_checks, listed_entry_checks, index_checks, startup_checks, action_trigger_checks, port_trigger_checks, enabled_mode_checks, enabled_modes_checks, scope_list_checks, level_entry_checks, lifecycle_entry_checks, index_order_checks, shutdown_action_checks}
use Rattle.list_checks.specs.Routes.{route_order_checks, route_row, route_checks, binding_id_row, binding_id_checks}
use Rattle.list_checks.specs.Deadlines.{deadline_checks}
use Rattle.enclave.specs.Passes.{head_passes, table_passes, row_passes, scope_passes, reaction_list_passes, scope_list_passes, entry_passes, enclave_list_passes, list_passes, passes, pass_checks, checks_of, enclave_checks}
use Rattle.enclave.specs.Answer.{image_answer, enclave_answer}
use Rattle.federate.specs.Records.{enclave_before, enclave_from}
use Rattle.federate.specs.Enclaves as enclaves
use Rattle.route_pairs.specs.RoutePairs.{route_record_checks}
use Rattle.federate.specs.Federate.{metadata_checks, federate_checks}
use Rattle.federate.specs.Answer.{packed_answer, federate_answer}
use Rattle.cases.specs.Packs.{bytes, padded, federate, enclave, reactor, bank_reactor, action, bound_action, port, reaction, mode, scope, scope_under, mode_scope, trigger, binding, ab, enclave_s, reactor_s, scope_s, binding_s}

-- a pack of a kind, its two texts and the answer: 0 and the links, 0 and the enclaves and the links, or the refusal's number and values
pub record Case : Type 0 where
  pub kind : PackKind
  pub pack : List ℕ
  pub batch : List ℕ
  pub house : List ℕ
  pub answer : List ℕ

-- a station's pack over the batch text `ab`; an enclave whose identity is that many bytes after `ab`; both with no house text
abbrev plain : List ℕ → List ℕ → Case
plain p a = record { kind = Enclave; pack = p; batch = ab; house = []; answer = a }

abbrev named : ℕ → List ℕ → List ℕ → Case
named n text a =
    record {
      kind = Enclave;
      pack = enclave 2 n 1 0 ++ (reactor_s ++ (scope_s ++ binding_s));
      batch = ab ++ text;
      house = [];
      answer = a;
    }

-- a line's pack over the batch text `abf`, with no house text
abbrev federated : List ℕ → List ℕ → Case
federated p a = record { kind = Federate; pack = p; batch = ab ++ (102 ∷ []); house = []; answer = a }

unfoldable pub cases : List Case
cases =
    -- S: accepted, links 0
    plain (enclave_s ++ (reactor_s ++ (scope_s ++ binding_s))) (0 ∷ 0 ∷ [])
    -- S, state slots 0: 23 table 2, index 0, slot 0, bound 0
    ∷ plain (enclave 0 1 0 0 ++ (reactor_s ++ (scope_s ++ binding_s))) (23 ∷ 2 ∷ 0 ∷ 0 ∷ 0 ∷ [])
    -- S without its reactor, identity empty as well: 12 table 1, 0, 1, 2, 0, 0
    ∷ plain (enclave 0 0 1 0 ++ (scope_s ++ binding_s)) (12 ∷ 1 ∷ 0 ∷ 1 ∷ 2 ∷ 0 ∷ 0 ∷ [])
    -- S, scope 0 its own parent: 18 scope 0
    ∷ plain (enclave_s ++ (reactor_s ++ (scope_under 0 ++ binding_s))) (18 ∷ 0 ∷ [])
    -- S and scope 1 under scope 0: accepted, links 1
    ∷ plain (enclave_s ++ (reactor_s ++ (scope_s ++ (scope_under 0 ++ binding_s)))) (0 ∷ 1 ∷ [])
    -- each the other's parent: 18 scope 0
    ∷ plain (enclave_s ++ (reactor_s ++ (scope_under 1 ++ (scope_under 0 ++ binding_s)))) (18 ∷ 0 ∷ [])
    -- reactor 0 has modes 0+1, reactor 1 the empty span 0+0, rows otherwise in order: 14 table 2, 1, 4, 0, 1
    ∷ plain
    (enclave_s ++ (reactor 0 0 1 ++ (reactor 1 0 0 ++ (mode 0 2 ++ (scope 0 ++ (scope 1 ++ (mode_scope 0 0 ++ binding_s)))))))
    (14 ∷ 2 ∷ 1 ∷ 4 ∷ 0 ∷ 1 ∷ [])
    -- bank index 0 of 0, or 3 of 3: 22; bank 2 of 3 passes
    ∷ plain (enclave_s ++ (bank_reactor 0 0 ++ (scope_s ++ binding_s))) (22 ∷ 0 ∷ 0 ∷ 0 ∷ [])
    ∷ plain (enclave_s ++ (bank_reactor 3 3 ++ (scope_s ++ binding_s))) (22 ∷ 0 ∷ 3 ∷ 3 ∷ [])
    ∷ plain (enclave_s ++ (bank_reactor 2 3 ++ (scope_s ++ binding_s))) (0 ∷ 0 ∷ [])
    -- identity ` a` or U+00A0 alone: 19
    ∷ named 2 (0x20 ∷ 0x61 ∷ []) (19 ∷ 4 ∷ 0 ∷ 0 ∷ 2 ∷ 2 ∷ [])
    ∷ named 2 (0xC2 ∷ 0xA0 ∷ []) (19 ∷ 4 ∷ 0 ∷ 0 ∷ 2 ∷ 2 ∷ [])
    -- `a b` and U+200B alone pass
    ∷ named 3 (0x61 ∷ 0x20 ∷ 0x62 ∷ []) (0 ∷ 0 ∷ [])
    ∷ named 3 (0xE2 ∷ 0x80 ∷ 0x8B ∷ []) (0 ∷ 0 ∷ [])
    -- S with action slots 1 and a timer with a binding, or a standard action without: 25
    ∷ plain (enclave 0 1 1 1 ++ (reactor_s ++ (bound_action 2 0 0 0 ++ (scope_s ++ binding_s)))) (25 ∷ 3 ∷ 0 ∷ 7 ∷ [])
    ∷ plain (enclave 0 1 1 1 ++ (reactor_s ++ (action 0 ++ (scope_s ++ binding_s)))) (25 ∷ 3 ∷ 0 ∷ 7 ∷ [])
    -- with S's own action slots 0 it is 23, which comes first
    ∷ plain (enclave_s ++ (reactor_s ++ (bound_action 2 0 0 0 ++ (scope_s ++ binding_s)))) (23 ∷ 3 ∷ 0 ∷ 0 ∷ 0 ∷ [])
    ∷ plain (enclave_s ++ (reactor_s ++ (action 0 ++ (scope_s ++ binding_s)))) (23 ∷ 3 ∷ 0 ∷ 0 ∷ 0 ∷ [])
    -- an action and a port may both have triggers 0+1 (action slots 1, one trigger, one reaction, rows otherwise in order): accepted
    ∷ record {
      kind = Enclave;
      pack =
          enclave 0 1 1 1 ++ (reactor_s ++ (bound_action 0 1 0 1 ++ (port 2 0 1 ++ (reaction 3 ++ (scope_s ++ (trigger 0 0
          ++ (binding_s ++ (binding 3 2 ++ (binding 2 3 ++ binding 1 4)))))))));
      batch = ab ++ (99 ∷ 100 ∷ 101 ∷ []);
      house = [];
      answer = 0 ∷ 0 ∷ [];
    }
    -- S in a line whose span length is 2: 17 table 0, 0, 33
    ∷ federated (federate 0 2 ++ (enclave_s ++ (reactor_s ++ (scope_s ++ binding_s)))) (17 ∷ 0 ∷ 0 ∷ 33 ∷ [])
    -- S in a line, span 0+1: accepted, 1 station, links 0; with state slots 0: 23 table 2, index 0, slot 0, bound 0
    ∷ federated (federate 0 1 ++ (enclave_s ++ (reactor_s ++ (scope_s ++ binding_s)))) (0 ∷ 1 ∷ 0 ∷ [])
    ∷ federated (federate 0 1 ++ (enclave 0 1 0 0 ++ (reactor_s ++ (scope_s ++ binding_s)))) (23 ∷ 2 ∷ 0 ∷ 0 ∷ 0 ∷ [])
    -- a line with no station and span length 0: accepted
    ∷ federated (federate 0 0) (0 ∷ 0 ∷ 0 ∷ [])
    ∷ []

unfoldable pub same_list : List ℕ → List ℕ → Bool
same_list [] [] = true
same_list [] (y ∷ ys) = false
same_list (x ∷ xs) [] = false
same_list (x ∷ xs) (y ∷ ys) = eqb x y && same_list xs ys

-- the answer for a pack, by the check of its kind
abbrev pub pack_answer : PackKind → List ℕ → List ℕ → List ℕ → List ℕ
pack_answer Enclave p batch house = enclave_answer p batch house
pack_answer Federate p batch house = federate_answer p batch house

-- the check's definition gives each case's answer
unfoldable pub every : List Case → Bool
every [] = true
every (c ∷ cs) = same_list (pack_answer c.kind c.pack c.batch c.house) c.answer && every cs

pub cases-hold : T (every cases)
unfolding every same_list cases bytes padded enclave_answer image_answer first run numbers packing_checks record_checks identity_checks clean zeros
    layouts number first_reaching starts_below table_starts allowed scalar_at decode_after valid_scalars control white_space compared checked_end
    saturating_end contains enclave_at reactor_at action_at port_at reaction_at mode_at scope_at index_at level_at startup_at lifecycle_at route_at
    binding_at deadline_at enclave_checks checks_of pass_checks passes head_passes table_passes row_passes scope_passes reaction_list_passes scope_list_passes
    entry_passes enclave_list_passes list_passes span_checks listed_checks range_of_checks binding_checks slot_checks
    root_scope_checks initial_mode_checks bank_checks reactor_row reactor_checks action_binding_checks action_row action_checks port_row port_checks
    effect_checks reaction_owner_checks reaction_ends_before reactions.reaction_range_checks reaction_row reaction_checks mode_owner_checks mode_row
    mode_checks parent_checks scope_mode_checks scope_owner_checks ends_before member_range_checks reaction_range_checks scope_row_checks scope_checks
    followed links_below cycle_checks named_checks trigger_checks listed_entry_checks index_checks startup_checks action_trigger_checks port_trigger_checks enabled_mode_checks enabled_modes_checks
    scope_list_checks level_entry_checks lifecycle_entry_checks index_order_checks shutdown_action_checks route_order_checks route_row route_checks
    binding_id_row binding_id_checks deadline_checks federate_at federate_answer packed_answer metadata_checks federate_checks count_below enclave_before
    enclave_from enclaves.record_checks enclaves.links_before route_record_checks
cases-hold = tt
