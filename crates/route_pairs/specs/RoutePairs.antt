-- The routes of a federate, each against all of its boundary (view.rs, `validate_federate_route_pairs`). Assumes nothing.
use Rattle.std.specs.Prelude.{ℕ, Bool, not, ◌&&◌, ◌≡◌, cond, List, [], ◌∷◌, eqb, leb}
use Rattle.identity.specs.declared.IdentityPlace.{IdentityPlace}
use Rattle.identity.specs.Order.{compared}
use Rattle.answers.specs.declared.Refusal.TheVariants.{DuplicateRouteHalf, RoutePairMismatch}
use Rattle.answers.specs.declared.field.Field.{Field}
use Rattle.answers.specs.declared.field.Field.TheVariants as field
use Rattle.answers.specs.Checks.{Check, need}
use Rattle.schema.specs.declared.index.RouteDirection.{RouteDirection}
use Rattle.schema.specs.declared.index.RouteDirection.TheVariants.{Inbound, Outbound}
use Rattle.schema.specs.declared.rows.RouteImage.{RouteImage}
use Rattle.schema.specs.Rows.{route_at}
use Rattle.schema.specs.Records.{records_of, is_of, count_below, direction_number, domain_number}
use Rattle.checks.specs.Identities.{is_equal}

-- which routes c are counted: those that go one way, those of another domain than the route r, those of another delay
abbrev pub goes : RouteDirection → RouteImage → Bool
goes d c = eqb (direction_number c.direction) (direction_number d)

abbrev pub other_domain : RouteImage → RouteImage → Bool
other_domain r c = not (eqb (domain_number c.timing_domain) (domain_number r.timing_domain))

abbrev pub other_delay : RouteImage → RouteImage → Bool
other_delay r c = not (eqb c.delay_nanos r.delay_nanos)

-- record k is a route of r's boundary that is counted
abbrev pub half_at : (IdentityPlace → List ℕ) → List ℕ → RouteImage → (RouteImage → Bool) → ℕ → Bool
half_at text p r counted k =
    is_of p 23 k && (is_equal (compared (text (route_at p k).boundary) (text r.boundary)) && counted (route_at p k))

-- how many there are in the pack
abbrev pub halves : (IdentityPlace → List ℕ) → List ℕ → RouteImage → (RouteImage → Bool) → ℕ
halves text p r counted = count_below (half_at text p r counted) (records_of p)

-- of one boundary at most one half goes in and one goes out, and both have one domain and one delay
abbrev pub way_check : (IdentityPlace → List ℕ) → List ℕ → RouteImage → RouteDirection → Check
way_check text p r d = need (leb (halves text p r (goes d)) 1) (DuplicateRouteHalf r.boundary d)

abbrev pub alike_check : (IdentityPlace → List ℕ) → List ℕ → RouteImage → (RouteImage → Bool) → Field → Check
alike_check text p r differs f = need (eqb (halves text p r differs) 0) (RoutePairMismatch r.boundary f)

abbrev pub pair_checks : (IdentityPlace → List ℕ) → List ℕ → RouteImage → List Check
pair_checks text p r =
    way_check text p r Inbound
    ∷ way_check text p r Outbound
    ∷ alike_check text p r (other_domain r) field.TimingDomain
    ∷ alike_check text p r (other_delay r) field.DelayNanos
    ∷ []

-- record n, where it is a route's
unfoldable pub route_record_checks : (IdentityPlace → List ℕ) → List ℕ → ℕ → List Check
route_record_checks text p n = cond (is_of p 23 n) (pair_checks text p (route_at p n)) []

-- what a function or a closure answers of a route is `counted` of it
abbrev pub Answers : (RouteImage → Bool → Type 0) → (RouteImage → Bool) → Type 0
Answers gives counted = (c : RouteImage) (b : Bool) → gives c b → b ≡ counted c
