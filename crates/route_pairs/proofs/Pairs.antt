-- A route passes where the routes of its boundary are two by two its halves, and only there. Assumes nothing.
use Rattle.std.proofs.Common.{ℕ, ◌<◌, ◌≤◌, ◌≡◌, Bool, true, false, not, eqb, leb, List, ◌∷◌, refl, sym, ap, ◌∙◌, arith}
use borrow.Author.Tests.{eq-eqb, ne_eqb, le-leb, leb-true, eqb-true, eqb-false}
use Rattle.identity.specs.declared.IdentityPlace.{IdentityPlace}
use Rattle.std.specs.declared.cmp.Ordering.{Ordering}
use Rattle.std.specs.declared.cmp.Ordering.TheVariants.{Less, Equal, Greater}
use Rattle.identity.specs.Order.{compared}
use Rattle.identity.proofs.Order.{compared_same, compared-equal}
use Rattle.answers.specs.declared.Refusal.{Refusal}
use Rattle.answers.specs.Checks.{Check, need, first, passed}
use Rattle.schema.specs.declared.index.RouteDirection.{RouteDirection}
use Rattle.schema.specs.declared.index.RouteDirection.TheVariants as direction
use Rattle.schema.specs.declared.rows.RouteImage.{RouteImage}
use Rattle.schema.specs.Rows.{route_at}
use Rattle.schema.specs.Records.{records_of, is_of, direction_number, domain_number}
use Rattle.checks.specs.Identities.{is_equal}
use Rattle.route_pairs.specs.RoutePairs.{goes, other_domain, other_delay, half_at, halves, pair_checks, route_record_checks}
use Rattle.route_pairs.specs.RouteOrder.{boundary_at, are_halves}
use Rattle.route_pairs.proofs.Counts.{below_zero, below_some, below_one, below_two}
use Rattle.identity.proofs.Tests.{cases, below_or_not, both}
use Rattle.route_pairs.proofs.Tests.{same_or, not_true}

-- the record k is a route of record n's boundary
abbrev pub Beside : (IdentityPlace → List ℕ) → List ℕ → ℕ → ℕ → Type 0
Beside text p n k = (k < records_of p) × (is_of p 23 k ≡ true) × (boundary_at text p k ≡ boundary_at text p n)

-- records i and j are the two halves of one boundary
abbrev pub Paired : List ℕ → ℕ → ℕ → Type 0
Paired p i j = (direction_number (route_at p i).direction ≡ direction_number (route_at p j).direction → ⊥) × (domain_number (route_at p j).timing_domain ≡ domain_number (route_at p i).timing_domain) × ((route_at p j).delay_nanos ≡ (route_at p i).delay_nanos)

pub halves_are : (p : List ℕ) (i j : ℕ) → are_halves (route_at p i) (route_at p j) ≡ true → Paired p i j
halves_are p i j h =
    let d = both (not (eqb (direction_number (route_at p i).direction) (direction_number (route_at p j).direction))) _ h in
    let e = both (not (not (eqb (domain_number (route_at p j).timing_domain) (domain_number (route_at p i).timing_domain)))) _ d.1 in
    (eqb-false _ _ (not_true _ d.0), eqb-true _ _ (same _ e.0), eqb-true _ _ (same _ e.1))
  where
    same : (x : Bool) → not (not x) ≡ true → x ≡ true
    same true g = refl
    same false g = g

pub are_paired : (p : List ℕ) (i j : ℕ) → Paired p i j → are_halves (route_at p i) (route_at p j) ≡ true
are_paired p i j h = rw (ne_eqb _ _ h.0, eq-eqb _ _ h.1, eq-eqb _ _ h.2)

-- what a test of two texts tells
pub same_so : (a b : List ℕ) → is_equal (compared a b) ≡ true → a ≡ b
same_so a b h = compared-equal a b (equal (compared a b) h)
  where
    equal : (o : Ordering) → is_equal o ≡ true → o ≡ Equal
    equal Less e = absurd (cc)
    equal Equal e = refl
    equal Greater e = absurd (cc)

-- of three routes two go one way
way_few : (d : RouteDirection) → direction_number d ≤ 1
way_few direction.Inbound = omega arith
way_few direction.Outbound = omega arith

pub three_ways : (a b c : RouteDirection) → (direction_number a ≡ direction_number b → ⊥) → (direction_number a ≡ direction_number c → ⊥) → (direction_number b ≡ direction_number c → ⊥) → ⊥
three_ways a b c x y z = omega (arith, way_few a, way_few b, way_few c)

by_way {ℓ} : {X : Type ℓ} (d : RouteDirection) → (direction_number d ≡ 0 → X) → (direction_number d ≡ 1 → X) → X
by_way direction.Inbound a b = a refl
by_way direction.Outbound a b = b refl

passed_so : (b : Bool) (r : Refusal) (cs : List Check) → first (need b r ∷ cs) ≡ passed → (b ≡ true) × (first cs ≡ passed)
unfolding first
passed_so true r cs e = (refl, e)
passed_so false r cs e = absurd (cc)

module _ (text : IdentityPlace → List ℕ) (p : List ℕ) (n : ℕ) (inside : n < records_of p) (route : is_of p 23 n ≡ true) where
  abbrev own : RouteImage
  own = route_at p n

  -- a record that is counted, both ways
  counts : (half : RouteImage → Bool) (k : ℕ) → k < records_of p → half_at text p own half k ≡ true → Beside text p n k × (half (route_at p k) ≡ true)
  counts half k g h =
      let a = both (is_of p 23 k) _ h in
      let b = both (is_equal (compared (boundary_at text p k) (boundary_at text p n))) (half (route_at p k)) a.1 in
      ((g, a.0, same_so _ _ b.0), b.1)

  is_counted : (half : RouteImage → Bool) (k : ℕ) → Beside text p n k → half (route_at p k) ≡ true → half_at text p own half k ≡ true
  is_counted half k b h =
      let q : compared (boundary_at text p k) (boundary_at text p n) ≡ Equal = rw b.2 (compared_same (boundary_at text p n)) in
      rw (b.1, q) h

  module _ (pairs : (i j : ℕ) → Beside text p n i → Beside text p n j → (i ≡ j → ⊥) → (Paired p i j → ⊥) → ⊥) where
    one_way : (half : RouteImage → Bool) (d : ℕ) → ((k : ℕ) → half (route_at p k) ≡ true → direction_number (route_at p k).direction ≡ d) → halves text p own half ≤ 1
    one_way half d is =
        below_one _ (records_of p) (λ i j hi hj ci cj. same_or i j
        (λ e. e)
        (λ ne.
        let a = counts half i hi ci in
        let b = counts half j hj cj in
        absurd (pairs i j a.0 b.0 ne (λ h. h.0 (is i a.1 ∙ sym (is j b.1))))))

    no_other : (half : RouteImage → Bool) (v : RouteImage → ℕ) → ((k : ℕ) → half (route_at p k) ≡ true → v (route_at p k) ≡ v own → ⊥) → ((k : ℕ) → Paired p n k → v (route_at p k) ≡ v own) → halves text p own half ≡ 0
    no_other half v differs same =
        below_zero _ (records_of p) (λ k h. cases (half_at text p own half k)
        (λ t.
        let a = counts half k h t in
        let d = differs k a.1 in
        absurd (pairs n k (inside, route, refl) a.0 (λ e. d (ap (λ (i : ℕ). v (route_at p i)) (sym e))) (λ q. d (same k q))))
        (λ f. f))

    pub route_passes : first (route_record_checks text p n) ≡ passed
    unfolding first route_record_checks
    route_passes =
        let a = le-leb _ 1 (one_way (goes direction.Inbound) 0 (λ k e. eqb-true _ _ e)) in
        let b = le-leb _ 1 (one_way (goes direction.Outbound) 1 (λ k e. eqb-true _ _ e)) in
        let c = eq-eqb _ 0 (no_other (other_domain own) (λ r. domain_number r.timing_domain) (λ k e. eqb-false _ _ (not_true _ e)) (λ k h. h.1)) in
        let d = eq-eqb _ 0 (no_other (other_delay own) (λ r. r.delay_nanos) (λ k e. eqb-false _ _ (not_true _ e)) (λ k h. h.2)) in
        rw (route, a, b, c, d)

  module _ (good : first (route_record_checks text p n) ≡ passed) where
    all_pass : (leb (halves text p own (goes direction.Inbound)) 1 ≡ true) × (leb (halves text p own (goes direction.Outbound)) 1 ≡ true) × (eqb (halves text p own (other_domain own)) 0 ≡ true) × (eqb (halves text p own (other_delay own)) 0 ≡ true)
    unfolding route_record_checks
    all_pass =
        let g : first (pair_checks text p own) ≡ passed = rw route at good in
        let a = passed_so _ _ _ g in
        let b = passed_so _ _ _ a.1 in
        let c = passed_so _ _ _ b.1 in
        let d = passed_so _ _ _ c.1 in
        (a.0, b.0, c.0, d.0)

    two_of : (half : RouteImage → Bool) → halves text p own half ≤ 1 → (i j : ℕ) → Beside text p n i → Beside text p n j → (i ≡ j → ⊥) → half (route_at p i) ≡ true → half (route_at p j) ≡ true → ⊥
    two_of half few i j bi bj ne hi hj =
        let a = is_counted half i bi hi in
        let b = is_counted half j bj hj in
        below_or_not i j
        (λ lt. let t = below_two (half_at text p own half) (records_of p) i j lt bj.0 a b in omega arith)
        (λ ge. let t = below_two (half_at text p own half) (records_of p) j i (omega arith) bi.0 b a in omega arith)

    pub ways_differ : (i j : ℕ) → Beside text p n i → Beside text p n j → (i ≡ j → ⊥) → direction_number (route_at p i).direction ≡ direction_number (route_at p j).direction → ⊥
    ways_differ i j bi bj ne e =
        by_way (route_at p j).direction
        (λ w. two_of (goes direction.Inbound) (leb-true _ 1 all_pass.0) i j bi bj ne (eq-eqb _ 0 (e ∙ w)) (eq-eqb _ 0 w))
        (λ w. two_of (goes direction.Outbound) (leb-true _ 1 all_pass.1) i j bi bj ne (eq-eqb _ 1 (e ∙ w)) (eq-eqb _ 1 w))

    alike : (half : RouteImage → Bool) → eqb (halves text p own half) 0 ≡ true → (k x y : ℕ) → Beside text p n k → half (route_at p k) ≡ not (eqb x y) → x ≡ y
    alike half z k x y b e =
        cases (eqb x y)
        (λ t. eqb-true x y t)
        (λ f.
        let s = below_some (half_at text p own half) (records_of p) k b.0 (is_counted half k b (e ∙ rw f)) in
        absurd (omega (arith, eqb-true (halves text p own half) 0 z)))

    pub pairs_up : (k : ℕ) → Beside text p n k → (n ≡ k → ⊥) → Paired p n k
    pairs_up k b ne = (ways_differ n k (inside, route, refl) b ne, alike (other_domain own) all_pass.2 k _ _ b refl, alike (other_delay own) all_pass.3 k _ _ b refl)
