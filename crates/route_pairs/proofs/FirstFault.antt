-- Of rows that are sorted and scanned, the smallest that does not fit is the first record at fault. Assumes nothing.
use Rattle.std.proofs.Common.{ℕ, zero, suc, ◌+◌, ◌-◌, ◌<◌, ◌≤◌, ◌≡◌, true, leb, List, [], ◌∷◌, length, get_or, refl, sym, ap, ◌∙◌, add-one, arith, IsPermutation}
use Rattle.std.specs.Prelude.{Option, Some, None}
use Rattle.std.specs.List.Sorted.{IsSorted}
use Rattle.std.proofs.lemmas.List.Sorted.{IsPermutation-refl}
use borrow.Author.Tests.{leb-true, leb-false}
use Rattle.identity.specs.declared.IdentityPlace.{IdentityPlace}
use Rattle.std.specs.declared.cmp.Ordering.TheVariants.{Equal}
use Rattle.identity.specs.Order.{compared}
use Rattle.identity.proofs.Order.{compared_same}
use Rattle.answers.specs.Checks.{Check, Outcome, first, run, passed}
use Rattle.answers.proofs.Laws.{first_past, first_stays}
use Rattle.answers.proofs.Loops.{Remaining, run_next, run_over}
use Rattle.schema.specs.Rows.{route_at}
use Rattle.schema.specs.Records.{records_of, is_of}
use Rattle.checks.specs.Identities.{is_equal}
use Rattle.route_pairs.specs.RoutePairs.{route_record_checks}
use Rattle.route_pairs.specs.RouteOrder.{boundary_at, routes_of, row_order, are_halves, parted, fits, FoundBelow, Scanned, FirstFault}
use Rattle.identity.proofs.Tests.{cases, below_or_not, both}
use Rattle.route_pairs.proofs.Tests.{same_or, or_true}
use Rattle.route_pairs.proofs.Order.{by_numbers, between}
use Rattle.route_pairs.proofs.Rows.{row_inside, row_route, row_once, has_place}
use Rattle.route_pairs.proofs.Scan.{scan_none}
use Rattle.route_pairs.proofs.Pairs.{Beside, Paired, halves_are, are_paired, same_so, three_ways, route_passes, ways_differ, pairs_up}

-- what it says that a row fits
module _ (text : IdentityPlace → List ℕ) (p rows : List ℕ) where
  abbrev pub at : ℕ → ℕ
  at k = get_or rows k 0

  abbrev pub key : ℕ → List ℕ
  key k = boundary_at text p (get_or rows k 0)

  pub parted_not : (k j : ℕ) → parted text p rows k j ≡ true → j < length rows → key k ≡ key j → ⊥
  parted_not k j h g e =
      or_true (leb (length rows) j) _ h
      (λ t. let z = leb-true (length rows) j t in omega arith)
      (λ t.
      let q : compared (key k) (key j) ≡ Equal = rw e (compared_same (key j)) in
      let z = rw q at t in
      absurd (cc))

  pub parted_from : (k j : ℕ) → (j < length rows → key k ≡ key j → ⊥) → parted text p rows k j ≡ true
  parted_from k j far =
      cases (leb (length rows) j)
      (λ t. rw t)
      (λ f. cases (is_equal (compared (key k) (key j)))
      (λ t. absurd (far (leb-false (length rows) j f) (same_so _ _ t)))
      (λ u. rw (f, u)))

  fits_next : (k : ℕ) → fits text p rows k ≡ true → k + 1 < length rows → key k ≡ key (k + 1) → are_halves (route_at p (at k)) (route_at p (at (k + 1))) ≡ true
  unfolding fits
  fits_next k h g e = or_true (parted text p rows k (k + 1)) _ h (λ t. absurd (parted_not k (k + 1) t g e)) (λ t. (both (are_halves (route_at p (at k)) (route_at p (at (k + 1)))) _ t).0)

  fits_third : (k : ℕ) → fits text p rows k ≡ true → k + 2 < length rows → key k ≡ key (k + 1) → key k ≡ key (k + 2) → ⊥
  unfolding fits
  fits_third k h g e f = or_true (parted text p rows k (k + 1)) _ h (λ t. parted_not k (k + 1) t (omega arith) e) (λ t. parted_not k (k + 2) (both (are_halves (route_at p (at k)) (route_at p (at (k + 1)))) _ t).1 g f)

  fits_from : (k : ℕ) → (k + 1 < length rows → key k ≡ key (k + 1) → (are_halves (route_at p (at k)) (route_at p (at (k + 1))) ≡ true) × (k + 2 < length rows → key k ≡ key (k + 2) → ⊥)) → fits text p rows k ≡ true
  unfolding fits
  fits_from k beside =
      cases (leb (length rows) (k + 1))
      (λ t. rw t)
      (λ f. cases (is_equal (compared (key k) (key (k + 1))))
      (λ t. let b = beside (leb-false (length rows) (k + 1) f) (same_so _ _ t) in rw (f, t, b.0, parted_from k (k + 2) b.1))
      (λ u. rw (f, u)))

-- of sorted rows
module _ (text : IdentityPlace → List ℕ) (p rows : List ℕ) (permuted : IsPermutation (routes_of p) rows) (up : IsSorted (row_order (boundary_at text p)) rows) where
  near : (a b : ℕ) → a < b → b < length rows → key text p rows a ≡ key text p rows b → fits text p rows a ≡ true → are_halves (route_at p (at text p rows a)) (route_at p (at text p rows b)) ≡ true
  near a b h g e f =
      let next = between (boundary_at text p) rows up a (a + 1) b (omega arith) (omega arith) g e in
      same_or b (a + 1)
      (λ (q : b ≡ a + 1). rw q (fits_next text p rows a f (omega arith) next))
      (λ ne. absurd (fits_third text p rows a f (omega arith) next (between (boundary_at text p) rows up a (a + 2) b (omega arith) (omega arith) g e)))

  module _ (least : ℕ) (s : Scanned text p rows (length rows) least) where
    module _ (n : ℕ) (small : n < least) (route : is_of p 23 n ≡ true) where
      -- up to the record's own place q, rows of its boundary fit
      fits_to : (a q : ℕ) → a ≤ q → q < length rows → at text p rows q ≡ n → key text p rows a ≡ boundary_at text p n → fits text p rows a ≡ true
      fits_to a q h g e f =
          let i = by_numbers (boundary_at text p) rows up a q h g (f ∙ ap (boundary_at text p) (sym e)) in
          s.passed a (omega arith) (omega arith)

      twins : (q a b : ℕ) → q < length rows → at text p rows q ≡ n → a < b → b < length rows → key text p rows a ≡ boundary_at text p n → key text p rows b ≡ boundary_at text p n → are_halves (route_at p (at text p rows a)) (route_at p (at text p rows b)) ≡ true
      twins q a b g e h m ea eb =
          below_or_not q a
          (λ lt.
          let w = ap (boundary_at text p) e ∙ sym eb in
          let f = fits_to q q (omega arith) g e (ap (boundary_at text p) e) in
          absurd (fits_third text p rows q f (omega arith) (between (boundary_at text p) rows up q (q + 1) b (omega arith) (omega arith) m w) (between (boundary_at text p) rows up q (q + 2) b (omega arith) (omega arith) m w)))
          (λ ge. near a b h m (ea ∙ sym eb) (fits_to a q ge g e ea))

      -- so its routes are two by two its halves
      paired : (i j : ℕ) → Beside text p n i → Beside text p n j → (i ≡ j → ⊥) → (Paired p i j → ⊥) → ⊥
      paired i j bi bj ne bad =
          has_place p rows permuted n (let w = s.within in omega arith) route (λ q gq eq.
          has_place p rows permuted i bi.0 bi.1 (λ a ga ea.
          has_place p rows permuted j bj.0 bj.1 (λ b gb eb.
          let ka = ap (boundary_at text p) ea ∙ bi.2 in
          let kb = ap (boundary_at text p) eb ∙ bj.2 in
          below_or_not a b
          (λ lt. bad (rw (ea, eb) at (halves_are p (at text p rows a) (at text p rows b) (twins q a b gq eq lt gb ka kb))))
          (λ ge. same_or a b
          (λ (z : a ≡ b). ne (sym ea ∙ ap (at text p rows) z ∙ eb))
          (λ nz.
          let h : Paired p j i = rw (ea, eb) at (halves_are p (at text p rows b) (at text p rows a) (twins q b a gq eq (omega arith) ga kb ka)) in
          bad ((λ z. h.0 (sym z)), sym h.1, sym h.2))))))

    passes : (n : ℕ) → n < least → first (route_record_checks text p n) ≡ passed
    unfolding route_record_checks first
    passes n h = cases (is_of p 23 n) (λ t. route_passes text p n (let w = s.within in omega arith) t (paired n h t)) (λ f. rw f)

    -- and where a row's record passes, it fits
    module _ (k : ℕ) (h : k < length rows) (good : first (route_record_checks text p (at text p rows k)) ≡ passed) where
      beside : (j : ℕ) → j < length rows → key text p rows k ≡ key text p rows j → Beside text p (at text p rows k) (at text p rows j)
      beside j g e = (row_inside p rows permuted j g, row_route p rows permuted j g, sym e)

      inside : at text p rows k < records_of p
      inside = row_inside p rows permuted k h

      route : is_of p 23 (at text p rows k) ≡ true
      route = row_route p rows permuted k h

      passed_fits : fits text p rows k ≡ true
      passed_fits =
          fits_from text p rows k (λ g e.
          let own = beside k h refl in
          let two = beside (k + 1) g e in (
            are_paired p (at text p rows k) (at text p rows (k + 1)) (pairs_up text p (at text p rows k) inside route good (at text p rows (k + 1)) two (row_once p rows permuted k (k + 1) (omega arith) g)),
            λ m f.
                let three = beside (k + 2) m f in
                let differ = ways_differ text p (at text p rows k) inside route good in
                three_ways (route_at p (at text p rows k)).direction (route_at p (at text p rows (k + 1))).direction (route_at p (at text p rows (k + 2))).direction
                (differ (at text p rows k) (at text p rows (k + 1)) own two (row_once p rows permuted k (k + 1) (omega arith) g))
                (differ (at text p rows k) (at text p rows (k + 2)) own three (row_once p rows permuted k (k + 2) (omega arith) m))
                (differ (at text p rows (k + 1)) (at text p rows (k + 2)) two three (row_once p rows permuted (k + 1) (k + 2) (omega arith) m)),
          ))

    stops : least < records_of p → first (route_record_checks text p least) ≡ passed → ⊥
    stops h good = s.named h (λ j g e. passed_fits j g (rw e good))

-- the first list of checks that does not pass decides
module _ (f : ℕ → List Check) (i n : ℕ) (fault : FirstFault f i n) where
  up_to : (k : ℕ) → k ≤ i → Remaining f k n
  up_to zero h = let e : n - 0 ≡ n = omega arith in rw e refl
  up_to (suc k) h =
      let w = fault.within in
      up_to k (omega arith) ∙ rw (run_next f k n (omega arith), add-one) (first_past (f k) _ (fault.passes k (omega arith)))

  pub fault_first : (o : Outcome) → i < n → o ≡ first (f i) → o ≡ first (run f 0 n)
  fault_first o h e = e ∙ sym (up_to i (omega arith) ∙ rw (run_next f i n h) (first_stays (f i) _ (fault.stops h)))

  pub fault_none : (o : Outcome) → n ≤ i → o ≡ passed → o ≡ first (run f 0 n)
  fault_none o h e = e ∙ sym (up_to i (omega arith) ∙ rw (run_over f i n h) refl)

module _ (text : IdentityPlace → List ℕ) (p rows : List ℕ) (permuted : IsPermutation (routes_of p) rows) (up : IsSorted (row_order (boundary_at text p)) rows) where
  fault_decides : (least : ℕ) → Scanned text p rows (length rows) least → FirstFault (route_record_checks text p) least (records_of p)
  fault_decides least s = record { within = s.within; passes = passes text p rows permuted up least s; stops = stops text p rows permuted up least s }

  pub fault_found : (found : Option ℕ) → FoundBelow (records_of p) (Scanned text p rows (length rows)) found → FoundBelow (records_of p) (λ i. FirstFault (route_record_checks text p) i (records_of p)) found
  fault_found None s = fault_decides (records_of p) s
  fault_found (Some i) s = (s.0, fault_decides i s.1)

-- of a pack without routes there is none
pub no_routes : (text : IdentityPlace → List ℕ) (p : List ℕ) → length (routes_of p) ≡ 0 → FirstFault (route_record_checks text p) (records_of p) (records_of p)
no_routes text p z = fault_decides text p [] (rw (empty (routes_of p) z) (IsPermutation-refl [])) (λ k d l h. absurd (omega arith)) (records_of p) (scan_none text p)
  where
    empty : (xs : List ℕ) → length xs ≡ 0 → xs ≡ []
    empty [] h = refl
    empty (x ∷ xs) h = absurd (omega arith)
