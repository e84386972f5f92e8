-- The least of the rows that do not fit where they stand. Assumes nothing.
use Rattle.std.proofs.Common.{ℕ, zero, suc, ◌+◌, ◌<◌, ◌≤◌, ◌≡◌, Bool, true, false, not, ◌||◌, cond, leb, List, [], map, length, get_or, refl, ap, arith, true≢false, sym, ◌∙◌}
use Rattle.std.proofs.Math.Nat.{min-le_left, min-le_right, min-eq_left, min-eq_right}
use Rattle.std.proofs.lemmas.Iterator.Adapters.{option_map_id}
use Prim.Native.Nat.{min}
use Rattle.std.specs.Prelude.{Option, Some, None, MatchOption, All, option_map}
use Rattle.std.specs.List.{filter, fold, reduce, range_with_len}
use borrow.Author.Tests.{leb-true, leb-false}
use Rattle.identity.specs.declared.IdentityPlace.{IdentityPlace}
use Rattle.identity.proofs.Tests.{cases, below_or_not}
use Rattle.schema.specs.Records.{records_of}
use Rattle.route_pairs.specs.RouteOrder.{fits, FoundBelow, Scanned}
use Rattle.route_pairs.proofs.Tests.{same_or, not_true, not_false}

-- the rows of the places that pass a test, from place a on
module _ (test : ℕ → Bool) (row : ℕ → ℕ) where
  abbrev rows_from : ℕ → ℕ → List ℕ
  rows_from a n = map row (filter test (range_with_len a n))

  abbrev Below : ℕ → ℕ → ℕ → Type 0
  Below a n m = (j : ℕ) → a ≤ j → j < a + n → test j ≡ true → m ≤ row j

  -- not none of them is m
  abbrev Named : ℕ → ℕ → ℕ → Type 0
  Named a n m = ((j : ℕ) → a ≤ j → j < a + n → test j ≡ true → row j ≡ m → ⊥) → ⊥

  abbrev Least : ℕ → ℕ → ℕ → ℕ → Type 0
  Least a n acc m = (m ≤ acc) × Below a n m × ((m ≡ acc → ⊥) → Named a n m)

  take : (n a acc m : ℕ) → test a ≡ true → Least (a + 1) n (min acc (row a)) m → Least a (suc n) acc m
  take n a acc m t r = (
    omega (arith, min-le_left acc (row a), r.0),
    λ j h g e. same_or j a (λ (q : j ≡ a). rw q (omega (arith, min-le_right acc (row a), r.0))) (λ ne. r.1 j (omega arith) (omega arith) e),
    λ ne f. same_or m (min acc (row a))
        (λ (q : m ≡ min acc (row a)). below_or_not acc (row a)
        (λ l. ne (q ∙ min-eq_left (omega arith)))
        (λ l. f a (omega arith) (omega arith) t (sym (q ∙ min-eq_right l))))
        (λ nq. r.2 nq (λ j h g e k. f j (omega arith) (omega arith) e k)),
  )

  leave : (n a acc m : ℕ) → test a ≡ false → Least (a + 1) n acc m → Least a (suc n) acc m
  leave n a acc m t r = (
    r.0,
    λ j h g e. same_or j a (λ (q : j ≡ a). absurd (true≢false (sym (rw q at e) ∙ t))) (λ ne. r.1 j (omega arith) (omega arith) e),
    λ ne f. r.2 ne (λ j h g e k. f j (omega arith) (omega arith) e k),
  )

  least_on : (n a acc : ℕ) → Least a n acc (fold min acc (rows_from a n))
  least_on zero a acc = (omega arith, λ j h g e. absurd (omega arith), λ ne f. ne refl)
  least_on (suc n) a acc =
      cases (test a)
      (λ t. rw t (take n a acc _ t (least_on n (a + 1) (min acc (row a)))))
      (λ t. rw t (leave n a acc _ t (least_on n (a + 1) acc)))

  -- none of them, or the least
  abbrev IsLeast : ℕ → ℕ → Option ℕ → Type 0
  IsLeast a n o = MatchOption o ((j : ℕ) → a ≤ j → j < a + n → test j ≡ false) (λ m. Below a n m × Named a n m)

  here : (n a m : ℕ) → test a ≡ true → Least (a + 1) n (row a) m → Below a (suc n) m × Named a (suc n) m
  here n a m t r = (
    λ j h g e. same_or j a (λ (q : j ≡ a). rw q r.0) (λ ne. r.1 j (omega arith) (omega arith) e),
    λ f. same_or m (row a)
        (λ (q : m ≡ row a). f a (omega arith) (omega arith) t (sym q))
        (λ nq. r.2 nq (λ j h g e k. f j (omega arith) (omega arith) e k)),
  )

  later : (n a : ℕ) (o : Option ℕ) → test a ≡ false → IsLeast (a + 1) n o → IsLeast a (suc n) o
  later n a None t r = λ j h g. same_or j a (λ (q : j ≡ a). rw q t) (λ ne. r j (omega arith) (omega arith))
  later n a (Some m) t r =
      ((leave n a m m t (omega arith, r.0, λ ne. r.1)).1, λ f. r.1 (λ j h g e k. f j (omega arith) (omega arith) e k))

  pub least : (n a : ℕ) → IsLeast a n (reduce min (rows_from a n))
  least zero a = λ j h g. absurd (omega arith)
  least (suc n) a =
      cases (test a)
      (λ t. rw t (here n a _ t (least_on n (a + 1) (row a))))
      (λ t. rw t (later n a _ t (least n (a + 1))))

-- of rows that are records
module _ (text : IdentityPlace → List ℕ) (p rows : List ℕ) where
  abbrev pub misfit : ℕ → Bool
  misfit k = not (fits text p rows k)

  abbrev pub row : ℕ → ℕ
  row k = get_or rows k 0

  does_fit : (k : ℕ) → misfit k ≡ false → fits text p rows k ≡ true
  does_fit k h = not_false (fits text p rows k) h

  -- the least so far, with place k looked at: passed over where its row is not less, or fits
  abbrev pub lesser : Option ℕ → ℕ → Option ℕ
  lesser None k = cond (fits text p rows k) None (Some (row k))
  lesser (Some m) k = cond (leb m (row k) || fits text p rows k) (Some m) (Some (row k))

  lesser_next : (n a : ℕ) (o q : Option ℕ) → lesser o a ≡ q → fold lesser o (range_with_len a (suc n)) ≡ fold lesser q (range_with_len (a + 1) n)
  lesser_next n a o q e = ap (λ (x : Option ℕ). fold lesser x (range_with_len (a + 1) n)) e

  lesser_on : (n a m : ℕ) → fold lesser (Some m) (range_with_len a n) ≡ Some (fold min m (rows_from misfit row a n))
  lesser_on zero a m = refl
  lesser_on (suc n) a m =
      cases (leb m (row a))
      (λ l. lesser_next n a (Some m) (Some m) (rw l refl) ∙ cases (fits text p rows a)
      (λ f. rw f (lesser_on n (a + 1) m))
      (λ f. rw (f, min-eq_left (leb-true m (row a) l)) (lesser_on n (a + 1) m)))
      (λ l. cases (fits text p rows a)
      (λ f. lesser_next n a (Some m) (Some m) (rw (l, f) refl) ∙ rw f (lesser_on n (a + 1) m))
      (λ f.
      let h : row a ≤ m = omega (arith, leb-false m (row a) l) in
      lesser_next n a (Some m) (Some (row a)) (rw (l, f) refl) ∙ rw (f, min-eq_right h) (lesser_on n (a + 1) (row a))))

  lesser_least : (n a : ℕ) → fold lesser None (range_with_len a n) ≡ reduce min (rows_from misfit row a n)
  lesser_least zero a = refl
  lesser_least (suc n) a =
      cases (fits text p rows a)
      (λ f. lesser_next n a None None (rw f refl) ∙ rw f (lesser_least n (a + 1)))
      (λ f. lesser_next n a None (Some (row a)) (rw f refl) ∙ rw f (lesser_on n (a + 1) (row a)))

  module _ (inside : All (λ r. r < records_of p) rows) where
    scanned : (o : Option ℕ) → IsLeast misfit row 0 (length rows) o → FoundBelow (records_of p) (Scanned text p rows (length rows)) o
    scanned None l = record { within = omega arith; passed = λ j h g. does_fit j (l j (omega arith) (omega arith)); named = λ h. absurd (omega arith) }
    scanned (Some m) l =
        let below : m < records_of p = below_or_not m (records_of p) (λ h. h) (λ h. absurd (l.1 (λ j a b t e. let i = inside j 0 (omega arith) in omega arith))) in (
          below,
          record {
            within = omega arith;
            passed = λ j h g. cases (misfit j) (λ t. absurd (let i = l.0 j (omega arith) (omega arith) t in omega arith)) (λ f. does_fit j f);
            named = λ h all. l.1 (λ j a b t e. true≢false (sym (all j (omega arith) e) ∙ not_true (fits text p rows j) t));
          },
        )

    -- where it is the least of a list of them
    pub scan : (o : Option ℕ) → option_map (λ x. x) o ≡ reduce min (rows_from misfit row 0 (length rows)) → FoundBelow (records_of p) (Scanned text p rows (length rows)) o
    scan o e = scanned o (rw (← option_map_id o, e) (least misfit row (length rows) 0))

    -- where it is kept from row to row
    pub scan_fold : (o : Option ℕ) → o ≡ fold lesser None (range_with_len 0 (length rows)) → FoundBelow (records_of p) (Scanned text p rows (length rows)) o
    scan_fold o e = scan o (option_map_id o ∙ e ∙ lesser_least (length rows) 0)

-- of no rows
pub scan_none : (text : IdentityPlace → List ℕ) (p : List ℕ) → Scanned text p [] 0 (records_of p)
scan_none text p = record { within = omega arith; passed = λ j h. absurd (omega arith); named = λ h. absurd (omega arith) }
