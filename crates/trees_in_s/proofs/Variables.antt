-- What the check of S with a table's scopes reads: with the parents' numbers as variables, a line for each choice of which are there. Assumes nothing.
use Prim.Native.Nat.{ℕ, zero, suc, ◌≤◌}
use mathlib.Core.List.{List, [], ◌∷◌, map}
use mathlib.Core.Path.{◌≡◌, refl}
use native.Mathlib.Omega.{arith}
use lib.ListN.{length}
use Rattle.std.specs.Prelude.{Option, Some, None}
use Rattle.identity.specs.Utf8.{allowed, scalar_at, decode_after}
use Rattle.identity.specs.Unicode.{control, white_space}
use Rattle.identity.specs.Identity.{valid_scalars}
use Rattle.identity.specs.Order.{compared}
use Rattle.range.specs.Range.{checked_end, saturating_end, contains}
use Rattle.answers.specs.Numbers.{numbers}
use Rattle.answers.specs.Checks.{first, run, passed}
use Rattle.schema.specs.Indexes.{ScopeIndex}
use Rattle.schema.specs.Number.{number}
use Rattle.schema.specs.Layout.{layouts}
use Rattle.schema.specs.Rows.{enclave_at, reactor_at, action_at, port_at, reaction_at, mode_at, scope_at, index_at, level_at, startup_at, lifecycle_at, route_at, binding_at, deadline_at}
use Rattle.packing.specs.declared.PackKind.TheVariants.{Enclave}
use Rattle.packing.specs.Clean.{zeros, clean}
use Rattle.packing.specs.Packing.{identity_checks, record_checks, packing_checks}
use Rattle.packing.specs.Starts.{first_reaching, starts_below, table_starts}
use Rattle.checks.specs.Image.{Image}
use Rattle.checks.specs.Refs.{span_checks}
use Rattle.checks.specs.Lists.{listed_checks, range_of_checks}
use Rattle.row_checks.specs.Bindings.{binding_checks}
use Rattle.row_checks.specs.Reactors.{slot_checks, root_scope_checks, initial_mode_checks, bank_checks, reactor_row, reactor_checks}
use Rattle.row_checks.specs.Actions.{action_binding_checks, action_row, action_checks}
use Rattle.row_checks.specs.Ports.{port_row, port_checks}
use Rattle.row_checks.specs.Reactions as reactions
use Rattle.row_checks.specs.Reactions.{effect_checks, reaction_owner_checks, reaction_ends_before, reaction_row, reaction_checks}
use Rattle.row_checks.specs.Modes.{mode_owner_checks, mode_row, mode_checks}
use Rattle.scope_checks.specs.Ends.{ends_before, member_range_checks, reaction_range_checks}
use Rattle.scope_checks.specs.Scopes.{parent_checks, scope_mode_checks, scope_owner_checks, scope_row_checks, scope_checks}
use Rattle.scope_checks.specs.Links.{parents}
use Rattle.list_checks.specs.ListTables.{named_checks, trigger_checks, listed_entry_checks, index_checks, startup_checks, action_trigger_checks, port_trigger_checks, enabled_mode_checks, enabled_modes_checks, scope_list_checks, level_entry_checks, lifecycle_entry_checks, index_order_checks, shutdown_action_checks}
use Rattle.list_checks.specs.Routes.{route_order_checks, route_row, route_checks, binding_id_row, binding_id_checks}
use Rattle.list_checks.specs.Deadlines.{deadline_checks}
use Rattle.enclave.specs.Passes.{head_passes, table_passes, row_passes, reaction_list_passes, scope_list_passes, entry_passes, enclave_list_passes, list_passes, pass_checks, checks_of}
use Rattle.enclave.specs.Answer.{pack_image, image_answer, enclave_answer}
use Rattle.cases.specs.Packs.{W, bytes, padded, ab}
use Rattle.trees_in_s.specs.TreesInS.{scopes_of, s_with}

abbrev pub image_with : List ℕ → Image
image_with t = pack_image (s_with t) ab []

-- f i, f (i + 1), .., n of them
unfoldable pub listed : (ℕ → Option ScopeIndex) → ℕ → ℕ → List (Option ScopeIndex)
listed f i zero = []
listed f i (suc n) = f i ∷ listed f (suc i) n

-- a byte as a parent, its number written in four bytes and read again
unfoldable pub reference : ℕ → Option ScopeIndex
reference zero = None
reference (suc p) = Some (record { 0 = number 4 (W p) 0 })

-- all checks pass but for those of the parents' references and of their cycles
pub record Reads (n : ℕ) (t : List ℕ) : Type 0 where
  pub packed : first (packing_checks Enclave (s_with t) ab []) ≡ passed
  pub rows : first (checks_of (image_with t) row_passes) ≡ passed
  pub scopes :
      first (run (scope_checks (image_with t)) 0 ((image_with t).rows 7))
      ≡ first (run (λ i. parent_checks (λ k. n) i (parents (image_with t) i)) 0 n)
  pub lists : first (checks_of (image_with t) list_passes) ≡ passed
  pub count : (image_with t).rows 7 ≡ n
  pub references : listed (parents (image_with t)) 0 n ≡ map reference t

-- what is shown of every table of n bytes, by which of them are 0
pub Choices : ℕ → (List ℕ → Type 0) → Type 0
Choices zero P = P []
Choices (suc n) P = Choices n (λ t. P (0 ∷ t)) × ((p : ℕ) → Choices n (λ t. P (suc p ∷ t)))

chosen : (n : ℕ) (P : List ℕ → Type 0) → Choices n P → (t : List ℕ) → length t ≡ n → P t
unfolding Choices
chosen zero P c [] e = c
chosen zero P c (a ∷ t) e = absurd (omega arith)
chosen (suc n) P c [] e = absurd (omega arith)
chosen (suc n) P c (zero ∷ t) e = chosen n (λ u. P (0 ∷ u)) c.0 t (omega arith)
chosen (suc n) P c (suc p ∷ t) e = chosen n (λ u. P (suc p ∷ u)) (c.1 p) t (omega arith)

reads-1 : Choices 1 (Reads 1)
unfolding bytes padded enclave_answer image_answer first run numbers packing_checks record_checks identity_checks clean zeros layouts number
    first_reaching starts_below table_starts allowed scalar_at decode_after valid_scalars control white_space compared checked_end saturating_end
    contains enclave_at reactor_at action_at port_at reaction_at mode_at scope_at index_at level_at startup_at lifecycle_at route_at binding_at
    deadline_at checks_of pass_checks head_passes table_passes row_passes reaction_list_passes scope_list_passes entry_passes
    enclave_list_passes list_passes span_checks listed_checks range_of_checks binding_checks slot_checks root_scope_checks initial_mode_checks
    bank_checks reactor_row reactor_checks action_binding_checks action_row action_checks port_row port_checks effect_checks reaction_owner_checks
    reaction_ends_before reactions.reaction_range_checks reaction_row reaction_checks mode_owner_checks mode_row mode_checks parent_checks
    scope_mode_checks scope_owner_checks ends_before member_range_checks reaction_range_checks scope_row_checks scope_checks named_checks
    trigger_checks listed_entry_checks index_checks startup_checks action_trigger_checks port_trigger_checks enabled_mode_checks
    enabled_modes_checks scope_list_checks level_entry_checks lifecycle_entry_checks index_order_checks shutdown_action_checks route_order_checks
    route_row route_checks binding_id_row binding_id_checks deadline_checks scopes_of listed reference Choices
reads-1 = (
  record { packed = refl; rows = refl; scopes = refl; lists = refl; count = refl; references = refl },
  λ p1. record { packed = refl; rows = refl; scopes = refl; lists = refl; count = refl; references = refl },
)

reads-2 : Choices 2 (Reads 2)
unfolding bytes padded enclave_answer image_answer first run numbers packing_checks record_checks identity_checks clean zeros layouts number
    first_reaching starts_below table_starts allowed scalar_at decode_after valid_scalars control white_space compared checked_end saturating_end
    contains enclave_at reactor_at action_at port_at reaction_at mode_at scope_at index_at level_at startup_at lifecycle_at route_at binding_at
    deadline_at checks_of pass_checks head_passes table_passes row_passes reaction_list_passes scope_list_passes entry_passes
    enclave_list_passes list_passes span_checks listed_checks range_of_checks binding_checks slot_checks root_scope_checks initial_mode_checks
    bank_checks reactor_row reactor_checks action_binding_checks action_row action_checks port_row port_checks effect_checks reaction_owner_checks
    reaction_ends_before reactions.reaction_range_checks reaction_row reaction_checks mode_owner_checks mode_row mode_checks parent_checks
    scope_mode_checks scope_owner_checks ends_before member_range_checks reaction_range_checks scope_row_checks scope_checks named_checks
    trigger_checks listed_entry_checks index_checks startup_checks action_trigger_checks port_trigger_checks enabled_mode_checks
    enabled_modes_checks scope_list_checks level_entry_checks lifecycle_entry_checks index_order_checks shutdown_action_checks route_order_checks
    route_row route_checks binding_id_row binding_id_checks deadline_checks scopes_of listed reference Choices
reads-2 = (
  (
    record { packed = refl; rows = refl; scopes = refl; lists = refl; count = refl; references = refl },
    λ p1. record { packed = refl; rows = refl; scopes = refl; lists = refl; count = refl; references = refl },
  ),
  λ p2. (
    record { packed = refl; rows = refl; scopes = refl; lists = refl; count = refl; references = refl },
    λ p1. record { packed = refl; rows = refl; scopes = refl; lists = refl; count = refl; references = refl },
  ),
)

reads-3 : Choices 3 (Reads 3)
unfolding bytes padded enclave_answer image_answer first run numbers packing_checks record_checks identity_checks clean zeros layouts number
    first_reaching starts_below table_starts allowed scalar_at decode_after valid_scalars control white_space compared checked_end saturating_end
    contains enclave_at reactor_at action_at port_at reaction_at mode_at scope_at index_at level_at startup_at lifecycle_at route_at binding_at
    deadline_at checks_of pass_checks head_passes table_passes row_passes reaction_list_passes scope_list_passes entry_passes
    enclave_list_passes list_passes span_checks listed_checks range_of_checks binding_checks slot_checks root_scope_checks initial_mode_checks
    bank_checks reactor_row reactor_checks action_binding_checks action_row action_checks port_row port_checks effect_checks reaction_owner_checks
    reaction_ends_before reactions.reaction_range_checks reaction_row reaction_checks mode_owner_checks mode_row mode_checks parent_checks
    scope_mode_checks scope_owner_checks ends_before member_range_checks reaction_range_checks scope_row_checks scope_checks named_checks
    trigger_checks listed_entry_checks index_checks startup_checks action_trigger_checks port_trigger_checks enabled_mode_checks
    enabled_modes_checks scope_list_checks level_entry_checks lifecycle_entry_checks index_order_checks shutdown_action_checks route_order_checks
    route_row route_checks binding_id_row binding_id_checks deadline_checks scopes_of listed reference Choices
reads-3 = (
  (
    (
      record { packed = refl; rows = refl; scopes = refl; lists = refl; count = refl; references = refl },
      λ p1. record { packed = refl; rows = refl; scopes = refl; lists = refl; count = refl; references = refl },
    ),
    λ p2. (
      record { packed = refl; rows = refl; scopes = refl; lists = refl; count = refl; references = refl },
      λ p1. record { packed = refl; rows = refl; scopes = refl; lists = refl; count = refl; references = refl },
    ),
  ),
  λ p3. (
    (
      record { packed = refl; rows = refl; scopes = refl; lists = refl; count = refl; references = refl },
      λ p1. record { packed = refl; rows = refl; scopes = refl; lists = refl; count = refl; references = refl },
    ),
    λ p2. (
      record { packed = refl; rows = refl; scopes = refl; lists = refl; count = refl; references = refl },
      λ p1. record { packed = refl; rows = refl; scopes = refl; lists = refl; count = refl; references = refl },
    ),
  ),
)

reads-00 : Choices 2 (λ t. Reads 4 (0 ∷ 0 ∷ t))
unfolding bytes padded enclave_answer image_answer first run numbers packing_checks record_checks identity_checks clean zeros layouts number
    first_reaching starts_below table_starts allowed scalar_at decode_after valid_scalars control white_space compared checked_end saturating_end
    contains enclave_at reactor_at action_at port_at reaction_at mode_at scope_at index_at level_at startup_at lifecycle_at route_at binding_at
    deadline_at checks_of pass_checks head_passes table_passes row_passes reaction_list_passes scope_list_passes entry_passes
    enclave_list_passes list_passes span_checks listed_checks range_of_checks binding_checks slot_checks root_scope_checks initial_mode_checks
    bank_checks reactor_row reactor_checks action_binding_checks action_row action_checks port_row port_checks effect_checks reaction_owner_checks
    reaction_ends_before reactions.reaction_range_checks reaction_row reaction_checks mode_owner_checks mode_row mode_checks parent_checks
    scope_mode_checks scope_owner_checks ends_before member_range_checks reaction_range_checks scope_row_checks scope_checks named_checks
    trigger_checks listed_entry_checks index_checks startup_checks action_trigger_checks port_trigger_checks enabled_mode_checks
    enabled_modes_checks scope_list_checks level_entry_checks lifecycle_entry_checks index_order_checks shutdown_action_checks route_order_checks
    route_row route_checks binding_id_row binding_id_checks deadline_checks scopes_of listed reference Choices
reads-00 = (
  (
    record { packed = refl; rows = refl; scopes = refl; lists = refl; count = refl; references = refl },
    λ p1. record { packed = refl; rows = refl; scopes = refl; lists = refl; count = refl; references = refl },
  ),
  λ p2. (
    record { packed = refl; rows = refl; scopes = refl; lists = refl; count = refl; references = refl },
    λ p1. record { packed = refl; rows = refl; scopes = refl; lists = refl; count = refl; references = refl },
  ),
)

reads-01 : (q : ℕ) → Choices 2 (λ t. Reads 4 (0 ∷ suc q ∷ t))
unfolding bytes padded enclave_answer image_answer first run numbers packing_checks record_checks identity_checks clean zeros layouts number
    first_reaching starts_below table_starts allowed scalar_at decode_after valid_scalars control white_space compared checked_end saturating_end
    contains enclave_at reactor_at action_at port_at reaction_at mode_at scope_at index_at level_at startup_at lifecycle_at route_at binding_at
    deadline_at checks_of pass_checks head_passes table_passes row_passes reaction_list_passes scope_list_passes entry_passes
    enclave_list_passes list_passes span_checks listed_checks range_of_checks binding_checks slot_checks root_scope_checks initial_mode_checks
    bank_checks reactor_row reactor_checks action_binding_checks action_row action_checks port_row port_checks effect_checks reaction_owner_checks
    reaction_ends_before reactions.reaction_range_checks reaction_row reaction_checks mode_owner_checks mode_row mode_checks parent_checks
    scope_mode_checks scope_owner_checks ends_before member_range_checks reaction_range_checks scope_row_checks scope_checks named_checks
    trigger_checks listed_entry_checks index_checks startup_checks action_trigger_checks port_trigger_checks enabled_mode_checks
    enabled_modes_checks scope_list_checks level_entry_checks lifecycle_entry_checks index_order_checks shutdown_action_checks route_order_checks
    route_row route_checks binding_id_row binding_id_checks deadline_checks scopes_of listed reference Choices
reads-01 q = (
  (
    record { packed = refl; rows = refl; scopes = refl; lists = refl; count = refl; references = refl },
    λ p1. record { packed = refl; rows = refl; scopes = refl; lists = refl; count = refl; references = refl },
  ),
  λ p2. (
    record { packed = refl; rows = refl; scopes = refl; lists = refl; count = refl; references = refl },
    λ p1. record { packed = refl; rows = refl; scopes = refl; lists = refl; count = refl; references = refl },
  ),
)

reads-10 : (p : ℕ) → Choices 2 (λ t. Reads 4 (suc p ∷ 0 ∷ t))
unfolding bytes padded enclave_answer image_answer first run numbers packing_checks record_checks identity_checks clean zeros layouts number
    first_reaching starts_below table_starts allowed scalar_at decode_after valid_scalars control white_space compared checked_end saturating_end
    contains enclave_at reactor_at action_at port_at reaction_at mode_at scope_at index_at level_at startup_at lifecycle_at route_at binding_at
    deadline_at checks_of pass_checks head_passes table_passes row_passes reaction_list_passes scope_list_passes entry_passes
    enclave_list_passes list_passes span_checks listed_checks range_of_checks binding_checks slot_checks root_scope_checks initial_mode_checks
    bank_checks reactor_row reactor_checks action_binding_checks action_row action_checks port_row port_checks effect_checks reaction_owner_checks
    reaction_ends_before reactions.reaction_range_checks reaction_row reaction_checks mode_owner_checks mode_row mode_checks parent_checks
    scope_mode_checks scope_owner_checks ends_before member_range_checks reaction_range_checks scope_row_checks scope_checks named_checks
    trigger_checks listed_entry_checks index_checks startup_checks action_trigger_checks port_trigger_checks enabled_mode_checks
    enabled_modes_checks scope_list_checks level_entry_checks lifecycle_entry_checks index_order_checks shutdown_action_checks route_order_checks
    route_row route_checks binding_id_row binding_id_checks deadline_checks scopes_of listed reference Choices
reads-10 p = (
  (
    record { packed = refl; rows = refl; scopes = refl; lists = refl; count = refl; references = refl },
    λ p1. record { packed = refl; rows = refl; scopes = refl; lists = refl; count = refl; references = refl },
  ),
  λ p2. (
    record { packed = refl; rows = refl; scopes = refl; lists = refl; count = refl; references = refl },
    λ p1. record { packed = refl; rows = refl; scopes = refl; lists = refl; count = refl; references = refl },
  ),
)

reads-11 : (p q : ℕ) → Choices 2 (λ t. Reads 4 (suc p ∷ suc q ∷ t))
unfolding bytes padded enclave_answer image_answer first run numbers packing_checks record_checks identity_checks clean zeros layouts number
    first_reaching starts_below table_starts allowed scalar_at decode_after valid_scalars control white_space compared checked_end saturating_end
    contains enclave_at reactor_at action_at port_at reaction_at mode_at scope_at index_at level_at startup_at lifecycle_at route_at binding_at
    deadline_at checks_of pass_checks head_passes table_passes row_passes reaction_list_passes scope_list_passes entry_passes
    enclave_list_passes list_passes span_checks listed_checks range_of_checks binding_checks slot_checks root_scope_checks initial_mode_checks
    bank_checks reactor_row reactor_checks action_binding_checks action_row action_checks port_row port_checks effect_checks reaction_owner_checks
    reaction_ends_before reactions.reaction_range_checks reaction_row reaction_checks mode_owner_checks mode_row mode_checks parent_checks
    scope_mode_checks scope_owner_checks ends_before member_range_checks reaction_range_checks scope_row_checks scope_checks named_checks
    trigger_checks listed_entry_checks index_checks startup_checks action_trigger_checks port_trigger_checks enabled_mode_checks
    enabled_modes_checks scope_list_checks level_entry_checks lifecycle_entry_checks index_order_checks shutdown_action_checks route_order_checks
    route_row route_checks binding_id_row binding_id_checks deadline_checks scopes_of listed reference Choices
reads-11 p q = (
  (
    record { packed = refl; rows = refl; scopes = refl; lists = refl; count = refl; references = refl },
    λ p1. record { packed = refl; rows = refl; scopes = refl; lists = refl; count = refl; references = refl },
  ),
  λ p2. (
    record { packed = refl; rows = refl; scopes = refl; lists = refl; count = refl; references = refl },
    λ p1. record { packed = refl; rows = refl; scopes = refl; lists = refl; count = refl; references = refl },
  ),
)

reads-4 : Choices 4 (Reads 4)
unfolding Choices
reads-4 = ((reads-00, λ q. reads-01 q), λ p. (reads-10 p, λ q. reads-11 p q))

pub reads : (n : ℕ) → 1 ≤ n → n ≤ 4 → (t : List ℕ) → length t ≡ n → Reads n t
reads zero l h t e = absurd (omega arith)
reads (suc zero) l h t e = chosen 1 (Reads 1) reads-1 t e
reads (suc (suc zero)) l h t e = chosen 2 (Reads 2) reads-2 t e
reads (suc (suc (suc zero))) l h t e = chosen 3 (Reads 3) reads-3 t e
reads (suc (suc (suc (suc zero)))) l h t e = chosen 4 (Reads 4) reads-4 t e
reads (suc (suc (suc (suc (suc n))))) l h t e = absurd (omega arith)
