-- Identities: valid, and above the identity before (view.rs, `validate_enclave_id`). Assumes nothing.
use Rattle.std.specs.Prelude.{ℕ, Bool, true, false, not, List, [], ◌∷◌}
use Rattle.identity.specs.declared.IdentityPlace.{IdentityPlace}
use Rattle.std.specs.declared.cmp.Ordering.{Ordering}
use Rattle.std.specs.declared.cmp.Ordering.TheVariants.{Less, Equal, Greater}
use Rattle.identity.specs.Identity.{valid_id}
use Rattle.identity.specs.Order.{compared}
use Rattle.answers.specs.declared.Refusal.TheVariants.{InvalidStableId, StableIdsNotSorted, DuplicateStableId}
use Rattle.answers.specs.Fields.{stable_id}
use Rattle.answers.specs.declared.id.IdKind.{IdKind}
use Rattle.answers.specs.Checks.{Check, need}

-- identity of row i, of the given kind
abbrev pub id_check : (IdentityPlace → List ℕ) → IdKind → ℕ → IdentityPlace → Check
id_check text kind i id = need (valid_id (text id)) (InvalidStableId (stable_id kind i id))

abbrev pub is_equal : Ordering → Bool
is_equal Less = false
is_equal Equal = true
is_equal Greater = false

abbrev pub is_less : Ordering → Bool
is_less Less = true
is_less Equal = false
is_less Greater = false

-- an identity, whose text is t, differs from the one before, and is not below it
abbrev pub text_order_checks : IdKind → ℕ → IdentityPlace → List ℕ → List ℕ → List Check
text_order_checks kind i id t before =
    need (not (is_equal (compared t before))) (DuplicateStableId (stable_id kind i id))
    ∷ need (not (is_less (compared t before))) (StableIdsNotSorted (stable_id kind i id))
    ∷ []

abbrev pub id_order_checks : (IdentityPlace → List ℕ) → IdKind → ℕ → IdentityPlace → IdentityPlace → List Check
id_order_checks text kind i id before = text_order_checks kind i id (text id) (text before)
