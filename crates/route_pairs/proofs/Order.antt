-- The order of rows is total, and in it rows of one text stand together, by their numbers. Assumes nothing.
use Rattle.std.proofs.Common.{ℕ, ◌<◌, ◌≤◌, ◌≡◌, false, List, [], ◌∷◌, length, get_or, refl, subst, arith}
use Rattle.std.proofs.lemmas.Bool.Decides.{nat_tests}
use Rattle.std.proofs.lemmas.Cmp.{nat_list_cmp_total, nat_cmp_total, on_total, then_total}
use Rattle.std.proofs.lemmas.List.Sorted.{ranks_by, sorted_far}
use Rattle.std.specs.Cmp.{IsTotalOrder, IsStrictWeakOrder}
use Rattle.std.specs.Cmp.Lexicographic.{slice_cmp}
use Rattle.std.specs.Ordering.{nat_cmp, is_lt, ordering_reverse, then_cmp, on}
use denote.Param.Members.{Mut}
use denote.Ref.{Bor}
use Rattle.std.specs.Fn.{Called}
use Rattle.std.proofs.lemmas.Fn.{always_returns_same}
use Rattle.std.specs.List.Sorted.{IsSorted, IsSortedByClosure}
use Rattle.std.specs.declared.cmp.Ordering.{Ordering}
use Rattle.std.specs.declared.cmp.Ordering.TheVariants.{Less, Equal, Greater}
use Rattle.identity.specs.Order.{compared}
use Rattle.identity.proofs.Order.{compared_same, compared-equal}
use Rattle.route_pairs.specs.RouteOrder.{row_order}

-- the order of texts is the one of lists of numbers
as_list : (a b : List ℕ) → slice_cmp nat_cmp a b ≡ compared a b
unfolding compared
as_list [] [] = refl
as_list [] (y ∷ ys) = refl
as_list (x ∷ xs) [] = refl
as_list (x ∷ xs) (y ∷ ys) = grind (arith, nat_tests, as_list xs ys)

module _ (key : ℕ → List ℕ) where
  row_order_is : (a b : ℕ) → then_cmp (on key (slice_cmp nat_cmp)) nat_cmp a b ≡ row_order key a b
  unfolding row_order
  row_order_is a b = rw (as_list (key a) (key b)) refl

  pub row_order_total : IsTotalOrder (row_order key)
  row_order_total = subst IsTotalOrder (λ i a b. row_order_is a b i) (then_total (on_total key nat_list_cmp_total) nat_cmp_total)

  pub row_order_weak : IsStrictWeakOrder (λ a b. is_lt (row_order key a b))
  row_order_weak = ranks_by row_order_total (λ a. a)

-- texts of which neither is below the other are the same
neither : (o q : Ordering) → o ≡ ordering_reverse q → (o ≡ Less → ⊥) → (q ≡ Less → ⊥) → o ≡ Equal
neither Less q e n m = absurd (n refl)
neither Equal q e n m = refl
neither Greater Less e n m = absurd (m refl)
neither Greater Equal e n m = absurd (cc)
neither Greater Greater e n m = absurd (cc)

same_text : (a b : List ℕ) → (compared a b ≡ Less → ⊥) → (compared b a ≡ Less → ⊥) → a ≡ b
same_text a b n m = compared-equal a b (neither (compared a b) (compared b a) (rw (as_list a b, as_list b a) at (nat_list_cmp_total.antisymm a b)) n m)

module _ (key : ℕ → List ℕ) (x y : ℕ) (h : is_lt (row_order key y x) ≡ false) where
  not_less : compared (key y) (key x) ≡ Less → ⊥
  unfolding row_order
  not_less e = let z = rw e at h in absurd (cc)

  by_number : key x ≡ key y → x ≤ y
  unfolding row_order
  by_number e =
      let q : compared (key y) (key x) ≡ Equal = rw e (compared_same (key y)) in
      let z = rw q at h in
      grind (arith, nat_tests)

module _ (key : ℕ → List ℕ) (rows : List ℕ) (up : IsSorted (row_order key) rows) where
  pub in_order : (a b : ℕ) → a ≤ b → b < length rows → is_lt (row_order key (get_or rows b 0) (get_or rows a 0)) ≡ false
  in_order a b h g = sorted_far (λ x y. is_lt (row_order key x y)) (row_order_weak key) rows up a b 0 h g

  -- of rows with one text the first is the smallest
  pub by_numbers : (a b : ℕ) → a ≤ b → b < length rows → key (get_or rows a 0) ≡ key (get_or rows b 0) → get_or rows a 0 ≤ get_or rows b 0
  by_numbers a b h g e = by_number key (get_or rows a 0) (get_or rows b 0) (in_order a b h g) e

  -- rows between two of one text have it too
  pub between : (a b c : ℕ) → a ≤ b → b ≤ c → c < length rows → key (get_or rows a 0) ≡ key (get_or rows c 0) → key (get_or rows a 0) ≡ key (get_or rows b 0)
  between a b c h g m e =
      same_text (key (get_or rows a 0)) (key (get_or rows b 0))
      (rw e (not_less key (get_or rows b 0) (get_or rows c 0) (in_order b c g m)))
      (not_less key (get_or rows a 0) (get_or rows b 0) (in_order a b h (omega arith)))

-- what a sort says of a closure that answers by the order of rows
pub sorted_rows : (key : ℕ → List ℕ) (rows : List ℕ) {F : Type 0} {g : Mut F (Bor ℕ × (Bor ℕ × Unit {0})) Ordering} {f : F} → IsSortedByClosure g f rows
    → ((a : Bor ℕ × (Bor ℕ × Unit {0})) (r : Ordering) (h : F) → Called g f a r h → (is_lt r ≡ is_lt (row_order key a.0.now a.1.0.now)) × (h ≡ f))
    → IsSorted (row_order key) rows
sorted_rows key rows {g = g} {f = f} sorted answers = sorted (λ a b. is_lt (row_order key a b)) (row_order_weak key) (always_returns_same g _ f answers)
