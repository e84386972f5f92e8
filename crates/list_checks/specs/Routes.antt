-- The checks of routes and of required bindings: view.rs, the last two loops. Assumes nothing.
use Rattle.std.specs.Prelude.{◌-◌, ℕ, not, ◌&&◌, List, [], ◌∷◌, ◌++◌, eqb}
use Rattle.identity.specs.declared.IdentityPlace.{IdentityPlace}
use Rattle.identity.specs.Order.{compared}
use Rattle.answers.specs.declared.Refusal.TheVariants.{StableIdsNotSorted, DuplicateRouteHalf, EntriesNotSorted}
use Rattle.answers.specs.Fields.{stable_id}
use Rattle.answers.specs.declared.field.Field.TheVariants as field
use Rattle.answers.specs.declared.id.IdKind.TheVariants as kind
use Rattle.answers.specs.Checks.{Check, need}
use Rattle.schema.specs.declared.index.RouteDirection.{RouteDirection}
use Rattle.schema.specs.Records.{direction_number}
use Rattle.checks.specs.Image.{Image, RoutePart}
use Rattle.checks.specs.Refs.{ref_to}
use Rattle.checks.specs.Lists.{after_first}
use Rattle.checks.specs.Identities.{id_check, is_equal, is_less, text_order_checks}

-- boundaries rise; of one boundary the inbound half comes before the outbound one, and neither twice:
-- row i's boundary, its text t and its direction d, and the text and the direction of the row before
unfoldable pub route_order_checks : ℕ → IdentityPlace → List ℕ → RouteDirection → List ℕ → RouteDirection → List Check
route_order_checks i id t d before e =
    need (not (is_less (compared t before))) (StableIdsNotSorted (stable_id kind.Boundary i id))
    ∷ need (not (is_equal (compared t before) && eqb (direction_number d) (direction_number e))) (DuplicateRouteHalf id d)
    ∷ need (not (is_equal (compared t before) && eqb (direction_number e) 1)) (EntriesNotSorted 23 i)
    ∷ []

unfoldable pub route_row : (ℕ → ℕ) → ℕ → RoutePart → List ℕ → List ℕ → RouteDirection → List Check
route_row rows i route t before e =
    (id_check (λ _. t) kind.Boundary i route.boundary ∷ [])
    ++ (after_first i (route_order_checks i route.boundary t route.direction before e)
    ++ (ref_to rows 23 i field.LocalPort 4 route.port ∷ []))

unfoldable pub route_checks : Image → ℕ → List Check
route_checks m i =
    let before = m.routes (i - 1) in
    route_row m.rows i (m.routes i) (m.text (m.routes i).boundary) (m.text before.boundary) before.direction

unfoldable pub binding_id_row : ℕ → IdentityPlace → List ℕ → List ℕ → List Check
binding_id_row i id t before =
    (id_check (λ _. t) kind.Binding i id ∷ []) ++ after_first i (text_order_checks kind.Binding i id t before)

unfoldable pub binding_id_checks : Image → ℕ → List Check
binding_id_checks m i =
    binding_id_row i (m.bindings i).id (m.text (m.bindings i).id) (m.text (m.bindings (i - 1)).id)
