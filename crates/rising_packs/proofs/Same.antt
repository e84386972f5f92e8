-- Two images with the same triggers have the same checks of levels, and the same reactions reached. Assumes nothing.
use Prim.Native.Nat.{ℕ, zero, suc, ◌<◌}
use mathlib.Core.Bool.{Bool, ◌||◌}
use mathlib.Core.Path.{◌≡◌, refl}
use mathlib.Core.List.{List}
use native.Mathlib.Omega.{arith}
use lib.Dec.{eqb}
use Rattle.answers.proofs.Alike.{Alike, alike_same, alike_run}
use Rattle.checks.specs.Image.{Image}
use Rattle.rising.specs.declared.marks.Marks.{Marks}
use Rattle.rising.specs.Rising.{stands_on, effects_of, port_of, triggers_of, target_of, trigger_rising, port_rising, reaction_rising, rising_checks}
use Rattle.rising.specs.Reach.{some_below, reached_in, others}
use Rattle.rising.specs.Marks.{marked}
use Rattle.rising.specs.Answer.{asked_checks, reach_count}
use Rattle.rising.proofs.Settled.{Settled}
use Rattle.rising.proofs.MarkLaws.{marked_same}
use Rattle.rising.proofs.Counting.{count_same}

-- n has m's reactions with their levels, their effects, and the triggers of m's ports; nothing is said past the tables
pub record SameTriggers (m n : Image) : Type 0 where
  pub rows : n.rows 5 ≡ m.rows 5
  pub level : (r : ℕ) → r < m.rows 5 → stands_on n r ≡ stands_on m r
  pub effects : (r : ℕ) → r < m.rows 5 → effects_of n r ≡ effects_of m r
  pub port : (r k : ℕ) → r < m.rows 5 → k < effects_of m r → port_of n r k ≡ port_of m r k
  pub triggers : (q : ℕ) → q < m.rows 4 → triggers_of n q ≡ triggers_of m q
  pub target : (q j : ℕ) → q < m.rows 4 → j < triggers_of m q → target_of n q j ≡ target_of m q j

some_same : (f g : ℕ → Bool) (n : ℕ) → ((i : ℕ) → i < n → g i ≡ f i) → some_below g n ≡ some_below f n
unfolding some_below
some_same f g zero e = refl
some_same f g (suc n) e = rw (some_same f g n (λ i l. e i (omega arith)), e n (omega arith)) refl

module _ (m n : Image) (s : SameTriggers m n) (w : Settled m) where
  trigger_alike : (r q j : ℕ) → r < m.rows 5 → q < m.rows 4 → j < triggers_of m q → Alike (trigger_rising m r q j) (trigger_rising n r q j)
  trigger_alike r q j l u v = rw (s.target q j u v, s.level r l, s.level (target_of m q j) (w.target_there q j u v)) (alike_same _)

  port_alike : (r q : ℕ) → r < m.rows 5 → q < m.rows 4 → Alike (port_rising m r q) (port_rising n r q)
  unfolding port_rising
  port_alike r q l u = rw (s.triggers q u) (alike_run (λ j v. trigger_alike r q j l u v))

  reaction_alike : (r : ℕ) → r < m.rows 5 → Alike (reaction_rising m r) (reaction_rising n r)
  unfolding reaction_rising
  reaction_alike r l = rw (s.effects r l) (alike_run (λ k u. rw (s.port r k l u) (port_alike r (port_of m r k) l (w.port_there r k l u))))

  pub rising_alike : Alike (rising_checks m) (rising_checks n)
  unfolding rising_checks
  rising_alike = rw s.rows (alike_run (λ r l. reaction_alike r l))

  -- reaction u is reached from target t in at most k steps more, by port q of either
  abbrev onward : Image → ℕ → ℕ → ℕ → ℕ → Bool
  onward x k u q j = eqb (target_of x q j) u || reached_in x k (target_of x q j) u

  reached_same : (k r u : ℕ) → r < m.rows 5 → reached_in n k r u ≡ reached_in m k r u
  unfolding reached_in
  reached_same zero r u l = refl
  reached_same (suc k) r u l =
      let again = reached_same k in
      rw (s.effects r l)
      (some_same
      (λ e. some_below (onward m k u (port_of m r e)) (triggers_of m (port_of m r e)))
      (λ e. some_below (onward n k u (port_of n r e)) (triggers_of n (port_of n r e)))
      (effects_of m r)
      (λ e a.
      let there = w.port_there r e l a in
      rw (s.port r e l a, s.triggers (port_of m r e) there)
      (some_same
      (onward m k u (port_of m r e))
      (onward n k u (port_of m r e))
      (triggers_of m (port_of m r e))
      (λ j b. rw (s.target (port_of m r e) j there b, again (target_of m (port_of m r e) j) u (w.target_there (port_of m r e) j there b)) refl))))

  others_same : (r : ℕ) → r < m.rows 5 → (u : ℕ) → u < m.rows 5 → others n r u ≡ others m r u
  others_same r l u h = rw (s.level u h, reached_same (stands_on m u) r u l) refl

  pub count_is : (r : ℕ) → r < m.rows 5 → reach_count n r ≡ reach_count m r
  count_is r l = rw s.rows (count_same (others n r) (others m r) (m.rows 5) (others_same r l))

  pub marks_are : (k : Marks) (r : ℕ) (xs : List ℕ) → r < m.rows 5 → marked k (others n r) (n.rows 5) xs ≡ marked k (others m r) (m.rows 5) xs
  marks_are k r xs l = rw s.rows (marked_same (others n r) (others m r) (m.rows 5) xs (others_same r l) k)

  pub asked_alike : (k : Marks) (r : ℕ) (xs : List ℕ) → Alike (asked_checks k m r xs) (asked_checks k n r xs)
  asked_alike k r xs = rw s.rows (alike_same _)
