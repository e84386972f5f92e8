-- Of routes sorted by their boundaries, a row that is alone where it stands lacks its other half, and no other row does. Assumes nothing.
use Rattle.std.proofs.Common.{ℕ, ◌+◌, ◌-◌, ◌<◌, ◌≤◌, ◌≡◌, true, false, ◌||◌, eqb, leb, List, [], ◌∷◌, map, length, refl, sym, ap, ◌∙◌, arith, true≢false, IsPermutation}
use Prim.Native.Nat.{min}
use borrow.Author.Tests.{eq-eqb, eqb-true, leb-false}
use Rattle.std.specs.Prelude.{Option, Some, None, Err, MatchOption, option_map}
use Rattle.std.specs.List.{filter, reduce, range_with_len}
use Rattle.std.specs.List.Sorted.{IsSorted}
use Rattle.std.proofs.lemmas.List.Sorted.{IsPermutation-refl}
use Rattle.std.proofs.lemmas.Iterator.Adapters.{option_map_id}
use Rattle.identity.specs.declared.IdentityPlace.{IdentityPlace}
use Rattle.identity.specs.Order.{compared}
use Rattle.identity.proofs.Order.{compared_same}
use Rattle.identity.proofs.Tests.{cases, below_or_not, both}
use Rattle.answers.specs.declared.Refusal.TheVariants.{UnpairedRoute}
use Rattle.answers.specs.Checks.{first, run, passed}
use Rattle.answers.proofs.Passed.{item}
use Rattle.schema.specs.declared.index.RouteDirection.{RouteDirection}
use Rattle.schema.specs.declared.index.RouteDirection.TheVariants.{Inbound, Outbound}
use Rattle.schema.specs.Rows.{route_at}
use Rattle.schema.specs.Records.{records_of, is_of, direction_number}
use Rattle.checks.specs.Identities.{is_equal}
use Rattle.route_pairs.specs.RoutePairs.{goes, half_at, halves, route_record_checks}
use Rattle.route_pairs.specs.RouteOrder.{boundary_at, routes_of, row_order, parted, FoundBelow, FirstFault}
use Rattle.route_pairs.proofs.Counts.{below_zero, below_some}
use Rattle.route_pairs.proofs.FirstFault.{at, key, parted_not, parted_from}
use Rattle.route_pairs.proofs.Order.{between}
use Rattle.route_pairs.proofs.Pairs.{Beside, same_so, ways_differ}
use Rattle.route_pairs.proofs.Rows.{row_inside, row_route, row_once, has_place}
use Rattle.route_pairs.proofs.Scan.{least}
use Rattle.route_pairs.proofs.Tests.{same_or, or_true}
use Rattle.night.specs.Halves.{other_way, unpaired_record_checks, alone}

-- what goes the other way does not go this one, and what does not go this one goes the other
pub other_differs : (d e : RouteDirection) → direction_number e ≡ direction_number (other_way d) → direction_number e ≡ direction_number d → ⊥
other_differs Inbound e h g = omega arith
other_differs Outbound e h g = omega arith

pub differs_other : (d e : RouteDirection) → (direction_number e ≡ direction_number d → ⊥) → direction_number e ≡ direction_number (other_way d)
differs_other Inbound Inbound n = absurd (n refl)
differs_other Inbound Outbound n = refl
differs_other Outbound Inbound n = refl
differs_other Outbound Outbound n = absurd (n refl)

-- the refusal of a route at fault
pub unpaired_refused :
    (text : IdentityPlace → List ℕ) (p : List ℕ) (n : ℕ) → (first (unpaired_record_checks text p n) ≡ passed → ⊥)
    → Err (UnpairedRoute (route_at p n).boundary (route_at p n).direction) ≡ first (unpaired_record_checks text p n)
unfolding unpaired_record_checks first
unpaired_refused text p n stops =
    cases (is_of p 23 n)
    (λ t. cases (leb 1 (halves text p (route_at p n) (goes (other_way (route_at p n).direction))))
    (λ u. absurd (stops (rw (t, u) refl)))
    (λ u. rw (t, u) refl))
    (λ f. absurd (stops (rw f refl)))

module _ (text : IdentityPlace → List ℕ) (p rows : List ℕ) (permuted : IsPermutation (routes_of p) rows) (up : IsSorted (row_order (boundary_at text p)) rows) where
  -- the other halves of record n's boundary
  abbrev others : ℕ → ℕ
  others n = halves text p (route_at p n) (goes (other_way (route_at p n).direction))

  -- a row that is alone is the only one of its boundary
  only : (k j : ℕ) → k < length rows → j < length rows → alone text p rows k ≡ true → key text p rows k ≡ key text p rows j → j ≡ k
  only k j h g a e =
      let b = both (parted text p rows k (k + 1)) (eqb k 0 || parted text p rows k (k - 1)) a in
      same_or j k
      (λ q. q)
      (λ ne. below_or_not j k
      (λ lt. or_true (eqb k 0) (parted text p rows k (k - 1)) b.1
      (λ z. absurd (let w = eqb-true k 0 z in omega arith))
      (λ t. absurd (parted_not text p rows k (k - 1) t (omega arith) (e ∙ between (boundary_at text p) rows up j (k - 1) k (omega arith) (omega arith) h (sym e)))))
      (λ ge. absurd (parted_not text p rows k (k + 1) b.0 (omega arith) (between (boundary_at text p) rows up k (k + 1) j (omega arith) (omega arith) g e))))

  none_beside : (k : ℕ) → k < length rows → alone text p rows k ≡ true → others (at text p rows k) ≡ 0
  none_beside k h a =
      let n = at text p rows k in
      let own = route_at p n in
      let test = half_at text p own (goes (other_way own.direction)) in
      below_zero test (records_of p) (λ i l. cases (test i)
      (λ t.
      let x = both (is_of p 23 i) _ t in
      let y = both (is_equal (compared (boundary_at text p i) (boundary_at text p n))) (goes (other_way own.direction) (route_at p i)) x.1 in
      absurd (has_place p rows permuted i l x.0 (λ j g e.
      let q = only k j h g a (sym (same_so _ _ y.0) ∙ ap (boundary_at text p) (sym e)) in
      other_differs own.direction (route_at p i).direction (eqb-true _ _ y.1) (ap (λ (m : ℕ). direction_number (route_at p m).direction) (sym e ∙ ap (at text p rows) q)))))
      (λ u. u))

  pub alone_stops : (k : ℕ) → k < length rows → alone text p rows k ≡ true → first (unpaired_record_checks text p (at text p rows k)) ≡ passed → ⊥
  unfolding unpaired_record_checks first
  alone_stops k h a e =
      let t = row_route p rows permuted k h in
      let z = none_beside k h a in
      let x = rw (t, z) at e in
      absurd (cc)

  -- where the day's checks of routes pass
  module _ (good : first (run (route_record_checks text p) 0 (records_of p)) ≡ passed) where
    -- two rows of one boundary are each other's half
    counted : (k j : ℕ) → k < length rows → j < length rows → (k ≡ j → ⊥) → key text p rows k ≡ key text p rows j → 1 ≤ others (at text p rows k)
    counted k j h g ne e =
        let n = at text p rows k in
        let i = at text p rows j in
        let own = route_at p n in
        let inside = row_inside p rows permuted k h in
        let route = row_route p rows permuted k h in
        let two : Beside text p n i = (row_inside p rows permuted j g, row_route p rows permuted j g, sym e) in
        let one : Beside text p n n = (inside, route, refl) in
        let apart : i ≡ n → ⊥ = λ q. below_or_not k j (λ lt. row_once p rows permuted k j lt g (sym q)) (λ ge. row_once p rows permuted j k (omega arith) h q) in
        let passes = (item (route_record_checks text p) (records_of p) (record { is = good }) n inside).is in
        let differ = ways_differ text p n inside route passes i n two one apart in
        let way = eq-eqb _ _ (differs_other own.direction (route_at p i).direction differ) in
        let same : compared (boundary_at text p i) (boundary_at text p n) ≡ compared (boundary_at text p n) (boundary_at text p n) = ap (λ (t : List ℕ). compared t (boundary_at text p n)) (sym e) in
        below_some (half_at text p own (goes (other_way own.direction))) (records_of p) i two.0 (rw (two.1, same ∙ compared_same (boundary_at text p n)) way)

    alone_where : (k : ℕ) → k < length rows → leb 1 (others (at text p rows k)) ≡ false → alone text p rows k ≡ true
    alone_where k h f =
        let few = leb-false 1 (others (at text p rows k)) f in
        let after = parted_from text p rows k (k + 1) (λ g e. let c = counted k (k + 1) h g (λ q. omega arith) e in omega arith) in
        cases (eqb k 0)
        (λ z. rw (after, z) refl)
        (λ z.
        let before = parted_from text p rows k (k - 1) (λ g e. let c = counted k (k - 1) h g (λ q. true≢false (sym (eq-eqb k 0 (omega arith)) ∙ z)) e in omega arith) in
        rw (after, z, before) refl)

    -- a record none of whose places is alone passes
    passes : (n : ℕ) → n < records_of p → ((k : ℕ) → k < length rows → at text p rows k ≡ n → alone text p rows k ≡ false) → first (unpaired_record_checks text p n) ≡ passed
    unfolding unpaired_record_checks first
    passes n l far =
        cases (is_of p 23 n)
        (λ t. cases (leb 1 (others n))
        (λ u. rw (t, u) refl)
        (λ u. absurd (has_place p rows permuted n l t (λ k g e. true≢false (sym (alone_where k g (rw e u)) ∙ far k g e)))))
        (λ f. rw f refl)

    abbrev Fault : ℕ → Type 0
    Fault i = FirstFault (unpaired_record_checks text p) i (records_of p)

    -- none is alone, or m is the least row that is
    found :
        (o : Option ℕ)
        → MatchOption o ((j : ℕ) → 0 ≤ j → j < 0 + length rows → alone text p rows j ≡ false) (λ m.
        ((j : ℕ) → 0 ≤ j → j < 0 + length rows → alone text p rows j ≡ true → m ≤ at text p rows j)
        × (((j : ℕ) → 0 ≤ j → j < 0 + length rows → alone text p rows j ≡ true → at text p rows j ≡ m → ⊥) → ⊥))
        → FoundBelow (records_of p) Fault o
    found None none =
        record {
          within = omega arith;
          passes = λ n l. passes n l (λ k g e. none k (omega arith) (omega arith));
          stops = λ h. absurd (omega arith);
        }
    found (Some m) (below, named) =
        let inside : m < records_of p = below_or_not m (records_of p) (λ h. h) (λ h. absurd (named (λ j a b t e. let i = row_inside p rows permuted j (omega arith) in omega arith))) in (
          inside,
          record {
            within = omega arith;
            passes = λ n l. passes n (omega arith) (λ k g e. cases (alone text p rows k) (λ t. absurd (let b = below k (omega arith) (omega arith) t in omega arith)) (λ u. u));
            stops = λ h good. named (λ j a b t e. alone_stops j (omega arith) t (rw e good));
          },
        )

    -- so the least row that is alone is the first at fault
    pub scan : (o : Option ℕ) → option_map (λ x. x) o ≡ reduce min (map (at text p rows) (filter (alone text p rows) (range_with_len 0 (length rows)))) → FoundBelow (records_of p) Fault o
    scan o e = found o (rw (← option_map_id o, e) (least (alone text p rows) (at text p rows) (length rows) 0))

-- of a pack without routes none is
pub no_routes : (text : IdentityPlace → List ℕ) (p : List ℕ) → length (routes_of p) ≡ 0 → FirstFault (unpaired_record_checks text p) (records_of p) (records_of p)
unfolding unpaired_record_checks first
no_routes text p z =
    record {
      within = omega arith;
      passes = λ n l. cases (is_of p 23 n) (λ t. absurd (has_place p [] (rw (empty (routes_of p) z) (IsPermutation-refl [])) n l t (λ k g e. omega arith))) (λ f. rw f refl);
      stops = λ h. absurd (omega arith);
    }
  where
    empty : (xs : List ℕ) → length xs ≡ 0 → xs ≡ []
    empty [] h = refl
    empty (x ∷ xs) h = absurd (omega arith)
