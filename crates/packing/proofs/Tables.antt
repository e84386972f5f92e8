-- What holds of every table's layout, by computing over the list of layouts. Assumes nothing.
use Prim.Native.Nat.{ℕ, zero, suc, ◌+◌, ◌*◌, ◌<◌, ◌≤◌}
use mathlib.Core.Bool.{Bool, true, ◌&&◌}
use mathlib.Core.Path.{◌≡◌, refl}
use mathlib.Core.List.{List, [], ◌∷◌}
use native.Mathlib.Omega.{arith}
use lib.Dec.{ltb, leb, eqb}
use lib.ListN.{get_or}
use borrow.Author.Tests.{ltb-true, ltb-false, leb-true, eqb-true}
use Rattle.identity.proofs.Tests.{cases, both}
use Rattle.schema.specs.Number.{number}
use Rattle.schema.specs.Layout.{Layout, plain, layouts, bytes, offset, field_at}
use Rattle.schema.specs.Rows.{field}
use Rattle.packing.specs.Shape.{layout_of}

-- a test holds of every layout of a list
unfoldable pub every : (Layout → Bool) → List Layout → Bool
every f [] = true
every f (l ∷ ls) = f l && every f ls

pub every-at : (f : Layout → Bool) (ls : List Layout) (d : Layout) (t : ℕ) → every f ls ≡ true → f d ≡ true → f (get_or ls t d) ≡ true
unfolding every
every-at f [] d t e h = h
every-at f (l ∷ ls) d zero e h = (both (f l) (every f ls) e).0
every-at f (l ∷ ls) d (suc t) e h = every-at f ls d t (both (f l) (every f ls) e).1 h

-- a test holds of every number below k
unfoldable pub below : (ℕ → Bool) → ℕ → Bool
below f zero = true
below f (suc k) = below f k && f k

pub below_at : (f : ℕ → Bool) (k j : ℕ) → below f k ≡ true → j < k → f j ≡ true
unfolding below
below_at f zero j e h = absurd (omega arith)
below_at f (suc k) j e h =
    let b = both (below f k) (f k) e in
    cases (ltb j k)
    (λ t. below_at f k j b.0 (ltb-true j k t))
    (λ n. let l = ltb-false j k n in let q : j ≡ k = omega arith in rw q b.1)

-- there are few identities; identity j is two W from byte 4 + 8 j on
pub identities_few : (t : ℕ) → (layout_of t).identities ≤ 7
unfolding layouts every
identities_few t = leb-true _ 7 (every-at (λ l. leb l.identities 7) layouts (plain []) t refl refl)

w_at : Layout → ℕ → ℕ → Bool
w_at l k o = eqb (bytes (field_at l k)) 4 && eqb (offset l k) o

pair_at : Layout → ℕ → Bool
pair_at l j = w_at l (2 * j) (4 + 8 * j) && w_at l (2 * j + 1) (8 + 8 * j)

pairs : Layout → Bool
pairs l = below (pair_at l) l.identities

pair-at : (t j : ℕ) → j < (layout_of t).identities → pair_at (layout_of t) j ≡ true
unfolding layouts every below pairs pair_at w_at
pair-at t j h = below_at (pair_at (layout_of t)) (layout_of t).identities j (every-at pairs layouts (plain []) t refl refl) h

-- so its place is read from there
w_field : (l : Layout) (k o : ℕ) (p : List ℕ) (n : ℕ) → w_at l k o ≡ true → field p n l k ≡ number 4 p (n * 64 + o)
unfolding w_at
w_field l k o p n e =
    let a = both (eqb (bytes (field_at l k)) 4) _ e in
    rw (eqb-true _ 4 a.0, eqb-true _ o a.1)

module _ (t j : ℕ) (h : j < (layout_of t).identities) where
  parts : (w_at (layout_of t) (2 * j) (4 + 8 * j) ≡ true) × (w_at (layout_of t) (2 * j + 1) (8 + 8 * j) ≡ true)
  unfolding pair_at
  parts = both (w_at (layout_of t) (2 * j) (4 + 8 * j)) _ (pair-at t j h)

  pub identity_start : (p : List ℕ) (n : ℕ) → field p n (layout_of t) (2 * j) ≡ number 4 p (n * 64 + (4 + 8 * j))
  identity_start p n = w_field (layout_of t) (2 * j) (4 + 8 * j) p n parts.0

  pub identity_len : (p : List ℕ) (n : ℕ) → field p n (layout_of t) (2 * j + 1) ≡ number 4 p (n * 64 + (4 + 8 * j + 4))
  identity_len p n =
      let e : 8 + 8 * j ≡ 4 + 8 * j + 4 = omega arith in
      rw e at (w_field (layout_of t) (2 * j + 1) (8 + 8 * j) p n parts.1)

pub ruleset identity_laws = (identities_few, identity_start, identity_len)
