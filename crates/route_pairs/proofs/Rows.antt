-- The routes of a pack listed, by the numbers of their records and in any order. Assumes nothing.
use Rattle.std.proofs.Common.{ℕ, zero, suc, ◌+◌, ◌-◌, ◌<◌, ◌≤◌, ◌≡◌, Bool, true, false, cond, ◌&&◌, List, [], ◌∷◌, ◌++◌, length, get_or, take, drop, refl, sym, ap, ◌∙◌, arith, add-one, append-nil, length-append, length-take-le, get_or-take, IsPermutation, count_by, eqb, true≢false}
use borrow.Author.Tests.{eq-eqb, ne_eqb, eqb-true}
use Rattle.std.specs.List.{All, refill}
use Rattle.std.proofs.Math.Seq.{take-append_seam}
use Rattle.std.proofs.lemmas.List.{get_or_default}
use Rattle.std.proofs.lemmas.List.Sorted.{sum_by-IsPermutation, length_permutation}
use Rattle.std.proofs.lemmas.List.Sums.{sum_by-cons, sum_by-append, get_or-le-sum_by, sum_by_more_le}
use Rattle.schema.specs.Records.{is_of, records_of, count_below}
use Rattle.schema.proofs.Counts.{records_few}
use Rattle.route_pairs.specs.RouteOrder.{routes_below, routes_of}
use Rattle.route_pairs.proofs.Counts.{below_zero, below_some, below_one}
use Rattle.identity.proofs.Tests.{cases, below_or_not, both}

module _ (p : List ℕ) where
  pub routes_none : routes_below p 0 ≡ []
  unfolding routes_below
  routes_none = refl

  pub routes_next : (n : ℕ) → routes_below p (n + 1) ≡ routes_below p n ++ cond (is_of p 23 n) (n ∷ []) []
  unfolding routes_below
  routes_next n = rw add-one

  pub count_none : length (routes_below p 0) ≡ 0
  count_none = rw routes_none

  one : (b : Bool) (n : ℕ) → length (cond b (n ∷ []) []) ≡ cond b 1 0
  one true n = refl
  one false n = refl

  pub count_next : (n : ℕ) → length (routes_below p (n + 1)) ≡ length (routes_below p n) + cond (is_of p 23 n) 1 0
  count_next n = rw (routes_next n, length-append, one (is_of p 23 n) n)

  count_up : (n d : ℕ) → length (routes_below p n) ≤ length (routes_below p (n + d))
  count_up n zero = let e : n + 0 ≡ n = omega arith in rw e (omega arith)
  count_up n (suc d) =
      let r = count_up n d in
      let e : n + suc d ≡ (n + d) + 1 = omega arith in
      rw (e, count_next (n + d)) (omega arith)

  below_counted : (n : ℕ) → count_below (is_of p 23) n ≡ length (routes_below p n)
  unfolding count_below
  below_counted zero = sym count_none
  below_counted (suc n) =
      let e = count_next n in
      rw (below_counted n) (sym (rw add-one at e))

  pub routes_counted : count_below (is_of p 23) (records_of p) ≡ length (routes_of p)
  routes_counted = below_counted (records_of p)

  pub count_few : (n : ℕ) → length (routes_below p n) ≤ n
  count_few zero = rw count_none (omega arith)
  count_few (suc n) =
      let r = count_few n in
      let e = count_next n in
      grind arith

  pub routes_few : length (routes_of p) ≤ 65536
  routes_few = let h = count_few (records_of p) in let f = records_few p in omega arith

  -- in a list with a place for each route there is one for the next
  module _ (n : ℕ) (inside : n < records_of p) (route : is_of p 23 n ≡ true) where
    pub list_room : length (routes_below p n) < length (routes_of p)
    list_room =
        let d : (n + 1) + (records_of p - (n + 1)) ≡ records_of p = omega arith in
        let u = rw d at (count_up (n + 1) (records_of p - (n + 1))) in
        let c = rw route at (count_next n) in
        omega arith

    pub list_route : routes_below p n ++ (n ∷ []) ≡ routes_below p (n + 1)
    list_route = sym (rw route at (routes_next n))

  pub list_other : (n : ℕ) → is_of p 23 n ≡ false → routes_below p n ≡ routes_below p (n + 1)
  list_other n e = sym (rw (routes_next n, e, append-nil))

-- the routes sorted in place stand in the vector as they were sorted
pub sorted_back : (p items lent ys now : List ℕ) → items ≡ routes_of p → lent ≡ items → IsPermutation lent ys → now ≡ refill (length items) items ys → (now ≡ ys) × IsPermutation (routes_of p) ys
sorted_back p items lent ys now listed e permuted back =
    let moved : IsPermutation items ys = rw (← e) permuted in
    (back ∙ rw (← length_permutation items ys moved) (take-append_seam ys (drop (length ys) items)), rw (← listed) moved)

-- counts over a list
module _ (f : ℕ → Bool) where
  abbrev one_of : ℕ → ℕ
  one_of x = cond (f x) 1 0

  count_zero : (xs : List ℕ) → ((k : ℕ) → k < length xs → f (get_or xs k 0) ≡ false) → count_by f xs ≡ 0
  count_zero [] h = refl
  count_zero (x ∷ xs) h =
      let r = count_zero xs (λ k l. h (suc k) (omega arith)) in
      rw (sum_by-cons one_of x xs, h 0 (omega arith), r)

  count_some : (xs : List ℕ) (k : ℕ) → k < length xs → f (get_or xs k 0) ≡ true → 1 ≤ count_by f xs
  count_some xs k h e = rw e at (get_or-le-sum_by one_of xs k 0 h)

  count_two : (xs : List ℕ) (a b : ℕ) → a < b → b < length xs → f (get_or xs a 0) ≡ true → f (get_or xs b 0) ≡ true → 2 ≤ count_by f xs
  count_two xs a b h g c d =
      let m = rw d at (sum_by_more_le one_of xs b 0 g) in
      let l = length-take-le b xs (omega arith) in
      let s = count_some (take b xs) a (omega arith) (rw (get_or-take b xs a 0 h) c) in
      omega arith

  count_tail : (b : Bool) (n : ℕ) → count_by f (cond b (n ∷ []) []) ≡ cond (b && f n) 1 0
  count_tail true n = omega arith
  count_tail false n = refl

  count_below_is : (p : List ℕ) (n : ℕ) → count_by f (routes_below p n) ≡ count_below (λ k. is_of p 23 k && f k) n
  unfolding routes_below count_below
  count_below_is p zero = refl
  count_below_is p (suc n) = rw (sum_by-append one_of (routes_below p n), count_below_is p n, count_tail (is_of p 23 n) n)

-- the routes in any order: each row is a route, no two are the same, and each route has a place
module _ (p rows : List ℕ) (permuted : IsPermutation (routes_of p) rows) where
  abbrev among : (ℕ → Bool) → ℕ → Bool
  among f k = is_of p 23 k && f k

  counted : (f : ℕ → Bool) → count_by f rows ≡ count_below (among f) (records_of p)
  counted f = sum_by-IsPermutation (λ x. cond (f x) 1 0) (routes_of p) rows permuted ∙ count_below_is f p (records_of p)

  -- a number that no record of a route has is in no row
  not_none : (k : ℕ) → k < length rows → ((j : ℕ) → j < records_of p → is_of p 23 j ≡ true → j ≡ get_or rows k 0 → ⊥) → ⊥
  not_none k h none =
      let v = get_or rows k 0 in
      let c = count_some (λ j. eqb j v) rows k h (eq-eqb v v refl) in
      let z = below_zero (among (λ j. eqb j v)) (records_of p) (λ j g. cases (among (λ i. eqb i v) j) (λ t. let q = both (is_of p 23 j) (eqb j v) t in absurd (none j g q.0 (eqb-true j v q.1))) (λ u. u)) in
      omega (arith, counted (λ j. eqb j v))

  pub row_inside : (k : ℕ) → k < length rows → get_or rows k 0 < records_of p
  row_inside k h = below_or_not (get_or rows k 0) (records_of p) (λ g. g) (λ g. absurd (not_none k h (λ j l t e. omega arith)))

  pub rows_inside : All (λ row. row < records_of p) rows
  rows_inside k d h = let e = get_or_default rows k d 0 h in let i = row_inside k h in omega arith

  pub row_route : (k : ℕ) → k < length rows → is_of p 23 (get_or rows k 0) ≡ true
  row_route k h = cases (is_of p 23 (get_or rows k 0)) (λ t. t) (λ u. absurd (not_none k h (λ j l t e. true≢false (sym t ∙ ap (is_of p 23) e ∙ u))))

  pub row_once : (a b : ℕ) → a < b → b < length rows → get_or rows a 0 ≡ get_or rows b 0 → ⊥
  row_once a b h g e =
      let v = get_or rows b 0 in
      let c = count_two (λ j. eqb j v) rows a b h g (eq-eqb _ v e) (eq-eqb v v refl) in
      let o = below_one (among (λ j. eqb j v)) (records_of p) (λ i j m n x y. eqb-true i v (both (is_of p 23 i) (eqb i v) x).1 ∙ sym (eqb-true j v (both (is_of p 23 j) (eqb j v) y).1)) in
      omega (arith, counted (λ j. eqb j v))

  pub has_place : (n : ℕ) → n < records_of p → is_of p 23 n ≡ true → ((k : ℕ) → k < length rows → get_or rows k 0 ≡ n → ⊥) → ⊥
  has_place n h e never =
      let c = count_zero (λ j. eqb j n) rows (λ k g. ne_eqb (get_or rows k 0) n (never k g)) in
      let i : among (λ j. eqb j n) n ≡ true = rw (e, eq-eqb n n refl) in
      let u = below_some (among (λ j. eqb j n)) (records_of p) n h i in
      omega (arith, counted (λ j. eqb j n))

pub ruleset rows_laws = (routes_none, list_room, list_route, list_other)
