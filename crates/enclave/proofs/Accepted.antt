-- Of an accepted enclave every item of every pass passes; what an accepted pack's answer says. Assumes nothing.
use Prim.Native.Nat.{ℕ, zero, suc, ◌<◌}
use mathlib.Core.Path.{◌≡◌, refl, ap}
use mathlib.Core.List.{List, [], ◌∷◌}
use native.Mathlib.Omega.{arith}
use lib.ListN.{length, get_or}
use Rattle.std.specs.Prelude.{Ok, Err}
use Rattle.answers.specs.declared.field.Field.TheVariants as field
use Rattle.answers.specs.Numbers.{numbers}
use Rattle.answers.specs.Checks.{first, Outcome, passed}
use Rattle.answers.proofs.RefusalNumbers.{number-positive}
use Rattle.answers.proofs.Passed.{Passes, parts, item}
use Rattle.packing.specs.declared.PackKind.TheVariants.{Enclave}
use Rattle.packing.specs.Packing.{packing_checks}
use Rattle.checks.specs.Image.{Image}
use Rattle.row_checks.specs.Reactors.{reactor_checks}
use Rattle.row_checks.specs.Actions.{action_checks}
use Rattle.row_checks.specs.Ports.{port_checks}
use Rattle.row_checks.specs.Reactions.{reaction_checks}
use Rattle.row_checks.specs.Modes.{mode_checks}
use Rattle.scope_checks.specs.Scopes.{scope_checks}
use Rattle.scope_checks.specs.Links.{cycle_checks, links}
use Rattle.list_checks.specs.ListTables.{index_checks, startup_checks, action_trigger_checks, port_trigger_checks, enabled_modes_checks, scope_list_checks, level_entry_checks, lifecycle_entry_checks, shutdown_reaction_checks, shutdown_action_checks}
use Rattle.list_checks.specs.Routes.{route_checks, binding_id_checks}
use Rattle.list_checks.specs.Deadlines.{deadline_checks}
use Rattle.enclave.specs.Passes.{Pass, times, root_checks, enclave_id_checks, passes, pass_checks, checks_of, enclave_checks}
use Rattle.enclave.specs.Answer.{unless, image_answer, pack_image, enclave_answer}
use Rattle.enclave.proofs.Opened.{the_passes}

-- pass k of a list of passes, at its item i
abbrev pub pass_at : List Pass → ℕ → Pass
pass_at fs k = get_or fs k (times 0 (λ m i. []))

pub pass_item :
    (m : Image) (fs : List Pass) → Passes (checks_of m fs) → (k : ℕ) → k < length fs
    → (i : ℕ) → i < (pass_at fs k).items m.rows → Passes ((pass_at fs k).checks m i)
unfolding checks_of pass_checks
pass_item m [] h k l i u = absurd (omega arith)
pass_item m (f ∷ fs) h zero l i u = item (f.checks m) (f.items m.rows) (parts (pass_checks m f) (checks_of m fs) h).0 i u
pass_item m (f ∷ fs) h (suc k) l i u = pass_item m fs (parts (pass_checks m f) (checks_of m fs) h).1 k (omega arith) i u

-- every item of every pass, in the order of the passes
pub record EachPasses (m : Image) : Type 0 where
  pub root : Passes (root_checks m 0)
  pub enclave_id : Passes (enclave_id_checks m 0)
  pub reactor : (i : ℕ) → i < m.rows 2 → Passes (reactor_checks m i)
  pub action : (i : ℕ) → i < m.rows 3 → Passes (action_checks m i)
  pub port : (i : ℕ) → i < m.rows 4 → Passes (port_checks m i)
  pub reaction : (i : ℕ) → i < m.rows 5 → Passes (reaction_checks m i)
  pub mode : (i : ℕ) → i < m.rows 6 → Passes (mode_checks m i)
  pub scope : (i : ℕ) → i < m.rows 7 → Passes (scope_checks m i)
  pub cycle : (i : ℕ) → i < m.rows 7 → Passes (cycle_checks m i)
  pub action_triggers : (i : ℕ) → i < m.rows 3 → Passes (action_trigger_checks m i)
  pub port_triggers : (i : ℕ) → i < m.rows 4 → Passes (port_trigger_checks m i)
  pub use_port : (i : ℕ) → i < m.rows 9 → Passes (index_checks 9 field.Port 4 m i)
  pub effect_port : (i : ℕ) → i < m.rows 10 → Passes (index_checks 10 field.Port 4 m i)
  pub reaction_action : (i : ℕ) → i < m.rows 11 → Passes (index_checks 11 field.Action 3 m i)
  pub enabled_mode : (i : ℕ) → i < m.rows 12 → Passes (index_checks 12 field.Mode 6 m i)
  pub enabled_modes : (i : ℕ) → i < m.rows 5 → Passes (enabled_modes_checks m i)
  pub descendant : (i : ℕ) → i < m.rows 13 → Passes (index_checks 13 field.Scope 7 m i)
  pub logical_action : (i : ℕ) → i < m.rows 14 → Passes (index_checks 14 field.Action 3 m i)
  pub timer_startup : (i : ℕ) → i < m.rows 15 → Passes (startup_checks 15 m i)
  pub scope_lists : (i : ℕ) → i < m.rows 7 → Passes (scope_list_checks m i)
  pub trigger : (i : ℕ) → i < m.rows 8 → Passes (level_entry_checks 8 m i)
  pub reset_reaction : (i : ℕ) → i < m.rows 16 → Passes (level_entry_checks 16 m i)
  pub startup_reaction : (i : ℕ) → i < m.rows 17 → Passes (lifecycle_entry_checks 17 m i)
  pub scope_shutdown : (i : ℕ) → i < m.rows 18 → Passes (lifecycle_entry_checks 18 m i)
  pub startup_action : (i : ℕ) → i < m.rows 19 → Passes (startup_checks 19 m i)
  pub timer_startup_action : (i : ℕ) → i < m.rows 20 → Passes (startup_checks 20 m i)
  pub shutdown_reaction : (i : ℕ) → i < m.rows 21 → Passes (shutdown_reaction_checks m i)
  pub shutdown_action : (i : ℕ) → i < m.rows 22 → Passes (shutdown_action_checks m i)
  pub route : (i : ℕ) → i < m.rows 23 → Passes (route_checks m i)
  pub binding_id : (i : ℕ) → i < m.rows 24 → Passes (binding_id_checks m i)
  pub deadline : (i : ℕ) → i < m.rows 25 → Passes (deadline_checks m i)

pub each : (m : Image) → first (enclave_checks m) ≡ passed → EachPasses m
unfolding enclave_checks the_passes
each m e =
    let pass = pass_item m passes (record { is = e }) in
    record {
      root = pass 0 (omega arith) 0 (omega arith);
      enclave_id = pass 1 (omega arith) 0 (omega arith);
      reactor = pass 2 (omega arith);
      action = pass 3 (omega arith);
      port = pass 4 (omega arith);
      reaction = pass 5 (omega arith);
      mode = pass 6 (omega arith);
      scope = pass 7 (omega arith);
      cycle = pass 8 (omega arith);
      action_triggers = pass 9 (omega arith);
      port_triggers = pass 10 (omega arith);
      use_port = pass 11 (omega arith);
      effect_port = pass 12 (omega arith);
      reaction_action = pass 13 (omega arith);
      enabled_mode = pass 14 (omega arith);
      enabled_modes = pass 15 (omega arith);
      descendant = pass 16 (omega arith);
      logical_action = pass 17 (omega arith);
      timer_startup = pass 18 (omega arith);
      scope_lists = pass 19 (omega arith);
      trigger = pass 20 (omega arith);
      reset_reaction = pass 21 (omega arith);
      startup_reaction = pass 22 (omega arith);
      scope_shutdown = pass 23 (omega arith);
      startup_action = pass 24 (omega arith);
      timer_startup_action = pass 25 (omega arith);
      shutdown_reaction = pass 26 (omega arith);
      shutdown_action = pass 27 (omega arith);
      route = pass 28 (omega arith);
      binding_id = pass 29 (omega arith);
      deadline = pass 30 (omega arith);
    }

-- an answer that begins with 0 is no refusal's
pub no_refusal : (o : Outcome) (ns ms : List ℕ) → unless o ns ≡ 0 ∷ ms → (o ≡ passed) × (ns ≡ 0 ∷ ms)
no_refusal (Ok u) ns ms e = (refl, e)
no_refusal (Err r) ns ms e =
    let h : get_or (numbers r) 0 0 ≡ 0 = ap (λ xs. get_or xs 0 0) e in
    absurd (omega (arith, number-positive r))

-- a pack accepted with c links passes the packing rules and the checks, and has c links
module _ (p batch house : List ℕ) (c : ℕ) (h : enclave_answer p batch house ≡ 0 ∷ c ∷ []) where
  past_packing : (first (packing_checks Enclave p batch house) ≡ passed) × (image_answer (pack_image p batch house) ≡ 0 ∷ c ∷ [])
  unfolding enclave_answer
  past_packing = no_refusal (first (packing_checks Enclave p batch house)) (image_answer (pack_image p batch house)) (c ∷ []) h

  past_checks : (first (enclave_checks (pack_image p batch house)) ≡ passed) × (0 ∷ links (pack_image p batch house) ∷ [] ≡ 0 ∷ c ∷ [])
  unfolding image_answer
  past_checks = no_refusal (first (enclave_checks (pack_image p batch house))) (0 ∷ links (pack_image p batch house) ∷ []) (c ∷ []) past_packing.1

  pub accepted_packed : first (packing_checks Enclave p batch house) ≡ passed
  accepted_packed = past_packing.0

  pub accepted_checks : first (enclave_checks (pack_image p batch house)) ≡ passed
  accepted_checks = past_checks.0

  pub accepted_links : links (pack_image p batch house) ≡ c
  accepted_links = let e = past_checks.1 in cc
