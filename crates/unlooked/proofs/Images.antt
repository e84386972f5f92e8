-- Images with the same rows in their tables have one answer. Assumes nothing.
use Prim.Native.Nat.{ℕ, ◌<◌}
use mathlib.Core.Path.{◌≡◌, refl, ◌∙◌, ap}
use mathlib.Core.List.{List, [], ◌∷◌}
use native.Mathlib.Omega.{arith}
use Rattle.std.specs.Prelude.{Ok, Err}
use Rattle.answers.specs.Checks.{first, Outcome, passed}
use Rattle.answers.proofs.Passed.{Passes, item}
use Rattle.answers.proofs.Alike.{Alike, alike_same, alike_append, alike_run}
use Rattle.checks.specs.Image.{Image}
use Rattle.scope_checks.specs.Scopes.{scope_checks}
use Rattle.scope_checks.specs.Links.{links, parents, cycle_checks}
use Rattle.enclave.specs.Passes.{Pass, pass_checks, checks_of, enclave_checks}
use Rattle.enclave.specs.Answer.{unless, image_answer}
use Rattle.enclave.proofs.Opened.{the_passes}
use Rattle.enclave.proofs.Accepted.{each}
use Rattle.accepted.proofs.Rows.{action_holds, port_holds, reaction_holds, scope_holds}
use Rattle.unlooked.specs.Images.{SameRows, RowsDecide}
use Rattle.unlooked.proofs.Links.{Known, links_same, sum_same}
use Rattle.unlooked.proofs.Rows.{own, own_same, reactor_alike, action_alike, port_alike, reaction_alike, mode_alike, scope_alike}
use Rattle.unlooked.proofs.Lists.{action_triggers_alike, port_triggers_alike, enabled_modes_alike, scope_lists_alike, index_alike, startup_alike, level_entry_alike, lifecycle_entry_alike, shutdown_reaction_alike, shutdown_action_alike, route_alike, binding_id_alike, deadline_alike}

module _ (m n : Image) (s : SameRows m n) where
  abbrev x : Image
  x = own m n s

  -- pass by pass: the later ones where each item passed
  pass_alike :
      (f : Pass) (fs : List Pass) → ((i : ℕ) → i < f.items m.rows → Alike (f.checks m i) (f.checks x i))
      → (((i : ℕ) → i < f.items m.rows → Passes (f.checks m i)) → Alike (checks_of m fs) (checks_of x fs))
      → Alike (checks_of m (f ∷ fs)) (checks_of x (f ∷ fs))
  unfolding checks_of pass_checks
  pass_alike f fs h k = alike_append (alike_run h) (λ e. k (item (f.checks m) (f.items m.rows) e))

  none_alike : Alike (checks_of m []) (checks_of x [])
  unfolding checks_of
  none_alike = alike_same []

  -- what the scopes' pass tells of parents
  module _ (scopes : (i : ℕ) → i < m.rows 7 → Passes (scope_checks m i)) where
    parent_same : (i : ℕ) → i < m.rows 7 → parents n i ≡ parents m i
    parent_same i l = ap (λ row. row.parent) (s.scopes i l)

    parent_known : (i : ℕ) → i < m.rows 7 → Known (m.rows 7) (parents m i)
    parent_known i l = (scope_holds m i (scopes i l)).parent

    cycle_alike : (i : ℕ) → i < m.rows 7 → Alike (cycle_checks m i) (cycle_checks x i)
    unfolding cycle_checks
    cycle_alike i l = rw (links_same (parents m) (parents n) (m.rows 7) parent_same parent_known i l) (alike_same _)

    links_are : links x ≡ links m
    links_are = sum_same (parents m) (parents n) (m.rows 7) parent_same parent_known (m.rows 7) (omega arith)

  enclave_alike : Alike (enclave_checks m) (enclave_checks x)
  unfolding enclave_checks the_passes
  enclave_alike =
      pass_alike _ _ (λ i l. alike_same _)
      (λ _. pass_alike _ _ (λ i l. alike_same _)
      (λ _. pass_alike _ _ (reactor_alike m n s)
      (λ _. pass_alike _ _ (action_alike m n s)
      (λ actions. pass_alike _ _ (port_alike m n s)
      (λ ports. pass_alike _ _ (reaction_alike m n s)
      (λ reactions. pass_alike _ _ (mode_alike m n s)
      (λ _. pass_alike _ _ (scope_alike m n s)
      (λ scopes. pass_alike _ _ (cycle_alike scopes)
      (λ _. pass_alike _ _ (λ i l. action_triggers_alike m n s i l (action_holds m i (actions i l)).triggers.inside)
      (λ _. pass_alike _ _ (λ i l. port_triggers_alike m n s i l (port_holds m i (ports i l)).triggers.inside)
      (λ _. pass_alike _ _ (index_alike m n s _ _ _ refl)
      (λ _. pass_alike _ _ (index_alike m n s _ _ _ refl)
      (λ _. pass_alike _ _ (index_alike m n s _ _ _ refl)
      (λ _. pass_alike _ _ (index_alike m n s _ _ _ refl)
      (λ _. pass_alike _ _ (λ i l. enabled_modes_alike m n s i l (reaction_holds m i (reactions i l)).enabled.inside)
      (λ _. pass_alike _ _ (index_alike m n s _ _ _ refl)
      (λ _. pass_alike _ _ (index_alike m n s _ _ _ refl)
      (λ _. pass_alike _ _ (startup_alike m n s _ refl)
      (λ _. pass_alike _ _ (λ i l. scope_lists_alike m n s i l (scope_holds m i (scopes i l)))
      (λ _. pass_alike _ _ (level_entry_alike m n s _ refl)
      (λ _. pass_alike _ _ (level_entry_alike m n s _ refl)
      (λ _. pass_alike _ _ (lifecycle_entry_alike m n s _ refl)
      (λ _. pass_alike _ _ (lifecycle_entry_alike m n s _ refl)
      (λ _. pass_alike _ _ (startup_alike m n s _ refl)
      (λ _. pass_alike _ _ (startup_alike m n s _ refl)
      (λ _. pass_alike _ _ (shutdown_reaction_alike m n s)
      (λ _. pass_alike _ _ (shutdown_action_alike m n s)
      (λ _. pass_alike _ _ (route_alike m n s)
      (λ _. pass_alike _ _ (binding_id_alike m n s)
      (λ _. pass_alike _ _ (deadline_alike m n s)
      (λ _. none_alike)))))))))))))))))))))))))))))))

-- the checks of both, and their links where they pass
pub checks_alike : (m n : Image) → SameRows m n → Alike (enclave_checks m) (enclave_checks n)
checks_alike m n s = rw (own_same m n s) (enclave_alike m n s)

pub links_alike : (m n : Image) → SameRows m n → first (enclave_checks m) ≡ passed → links n ≡ links m
links_alike m n s e = ap links (own_same m n s) ∙ links_are m n s (each m e).scope

pub rows_decide : RowsDecide
unfolding image_answer
rows_decide m n s = rw (checks_alike m n s).is (go (first (enclave_checks m)) refl)
  where
    go : (o : Outcome) → first (enclave_checks m) ≡ o → unless o (0 ∷ links n ∷ []) ≡ unless o (0 ∷ links m ∷ [])
    go (Ok u) e = rw (links_alike m n s e) refl
    go (Err r) e = refl
