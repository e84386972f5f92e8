-- The other halves of a route's boundary: one is counted exactly where there is one. Assumes nothing.
use Prim.Native.Nat.{ℕ, zero, suc, ◌<◌, ◌≤◌}
use mathlib.Core.Bool.{Bool, true, cond}
use mathlib.Core.Path.{◌≡◌, refl, ap, ◌∙◌}
use mathlib.Core.List.{List}
use native.Mathlib.Omega.{arith}
use borrow.Author.Tests.{eq-eqb, eqb-true}
use Rattle.identity.specs.declared.IdentityPlace.{IdentityPlace}
use Rattle.identity.specs.Order.{compared}
use Rattle.identity.proofs.Order.{compared_same}
use Rattle.identity.proofs.Tests.{cases, both}
use Rattle.schema.specs.declared.index.RouteDirection.{RouteDirection}
use Rattle.schema.specs.declared.index.RouteDirection.TheVariants.{Inbound, Outbound}
use Rattle.schema.specs.declared.rows.RouteImage.{RouteImage}
use Rattle.schema.specs.Bytes.{byte_of}
use Rattle.schema.specs.Rows.{route_at}
use Rattle.schema.specs.Records.{records_of, is_of, count_below, direction_number}
use Rattle.checks.specs.Identities.{is_equal}
use Rattle.route_pairs.specs.RoutePairs.{goes, half_at, halves}
use Rattle.route_pairs.proofs.Counts.{below_some}
use Rattle.route_pairs.proofs.Pairs.{same_so}
use Rattle.night.specs.Halves.{other_way}
use Rattle.night.proofs.HalfLaws.{other_differs, differs_other}
use Rattle.night_rules.specs.Rules.{HasOther}

-- where some are counted there is one
some_below : (f : ℕ → Bool) (n : ℕ) → 1 ≤ count_below f n → (k : ℕ) × (k < n) × (f k ≡ true)
unfolding count_below
some_below f zero h = absurd (omega arith)
some_below f (suc n) h =
    let i = some_below f n in
    cases (f n)
    (λ t. (n, omega arith, t))
    (λ u. let g : 1 ≤ count_below f n = (let z : ◌≡◌ {A = ℕ} (cond (f n) 1 0) 0 = rw u refl in omega arith) in let r = i g in (r.0, (let l = r.1 in omega arith), r.2))

same_way : (a b : RouteDirection) → direction_number a ≡ direction_number b → a ≡ b
same_way Inbound Inbound e = refl
same_way Inbound Outbound e = absurd (omega arith)
same_way Outbound Inbound e = absurd (omega arith)
same_way Outbound Outbound e = refl

module _ (text : IdentityPlace → List ℕ) (p : List ℕ) (n : ℕ) where
  abbrev own : RouteImage
  own = route_at p n

  abbrev others : ℕ
  others = halves text p own (goes (other_way own.direction))

  pub has_other : 1 ≤ others → HasOther text p n
  has_other h =
      let k = some_below (half_at text p own (goes (other_way own.direction))) (records_of p) h in
      let a = both (is_of p 23 k.0) _ k.2 in
      let b = both (is_equal (compared (text (route_at p k.0).boundary) (text own.boundary))) (goes (other_way own.direction) (route_at p k.0)) a.1 in (
        k.0,
        (k.1, eqb-true _ _ a.0),
        same_so _ _ b.0,
        λ q. other_differs own.direction (route_at p k.0).direction (eqb-true _ _ b.1) (ap direction_number q),
      )

  pub other_counted : HasOther text p n → 1 ≤ others
  other_counted (k, i, t, o) =
      let way = eq-eqb _ _ (differs_other own.direction (route_at p k).direction (λ z. o (same_way _ _ z))) in
      let same : compared (text (route_at p k).boundary) (text own.boundary) ≡ compared (text own.boundary) (text own.boundary) = ap (λ (x : List ℕ). compared x (text own.boundary)) t in
      below_some (half_at text p own (goes (other_way own.direction))) (records_of p) k i.0
      (rw (eq-eqb (byte_of p k 0) 23 i.1, same ∙ compared_same (text own.boundary)) way)
