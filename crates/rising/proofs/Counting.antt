-- Marks that are cleared, walked over and counted: what the question leaves and answers. Assumes nothing.
use Prim.Native.Nat.{ℕ, zero, suc, ◌/◌, ◌%◌, ◌<◌, ◌≤◌}
use mathlib.Core.Bool.{Bool, true, false, true≢false, not}
use mathlib.Core.Logic.{◌↔◌, ⊎_elim}
use mathlib.Core.List.{List}
use mathlib.Core.Path.{◌≡◌, refl, sym, ap, ◌∙◌}
use native.Mathlib.Omega.{arith}
use lib.Dec.{eqb}
use lib.ListN.{length, get_or, replicate}
use Rattle.std.proofs.lemmas.Nat.Bits.{bit_at-zero}
use Rattle.std.specs.Int.{bit_at}
use Rattle.answers.specs.Numbers.{bit}
use Rattle.schema.specs.Records.{count_below}
use Rattle.checks.specs.Image.{Image}
use Rattle.rising.specs.declared.marks.Marks.{Marks}
use Rattle.rising.specs.declared.marks.Marks.TheVariants.{Bits}
use Rattle.rising.specs.Rising.{effects_of, LevelsRise}
use Rattle.rising.specs.Reach.{Reaches, others}
use Rattle.rising.specs.Marks.{room, mark_of, is_marked}
use Rattle.rising.specs.Walk.{Has, FromReaction, cleared, Counted}
use Rattle.rising.proofs.Closure.{others_exactly}
use Rattle.rising.proofs.MarkLaws.{mark_none, none_has, cleared_long, cleared_first, cleared_beyond, all_zero, byte_is, all_marked}
use Rattle.rising.proofs.Steps.{exact}

pub count_same : (f g : ℕ → Bool) (n : ℕ) → ((i : ℕ) → i < n → f i ≡ g i) → count_below f n ≡ count_below g n
unfolding count_below
count_same f g zero e = refl
count_same f g (suc n) e = rw (count_same f g n (λ i l. e i (omega arith)), e n (omega arith)) refl

marked_is : (b : Bool) (x : ℕ) → x ≡ bit b → not (eqb x 0) ≡ b
marked_is true x e = rw e refl
marked_is false x e = rw e refl

module _ (m : Image) (k : Marks) (r : ℕ) (scratch : List ℕ) {after ports later : List ℕ}
    (w : LevelsRise m) (there : r < m.rows 5) (long : room k (m.rows 5) ≤ length scratch) (shut : (q : ℕ) → Has Bits ports q → ⊥)
    (h : FromReaction m k r (effects_of m r) (cleared (room k (m.rows 5)) scratch) after ports later) where
  abbrev start : List ℕ
  start = cleared (room k (m.rows 5)) scratch

  first_zero : (i : ℕ) → i < room k (m.rows 5) → get_or start i 0 ≡ 0
  first_zero = cleared_first (room k (m.rows 5)) scratch long

  zero_mark : (u : ℕ) → u < m.rows 5 → mark_of k start u ≡ 0
  zero_mark u l = mark_none k start u (m.rows 5) first_zero l

  exactly : (u : ℕ) → u < m.rows 5 → Has k after u ↔ Reaches m r u
  exactly u l = exact h (λ v n. none_has k start v (zero_mark v n)) shut w there u l

  mark_is : (u : ℕ) → u < m.rows 5 → mark_of k after u ≡ bit (others m r u)
  mark_is u l = go (others m r u) refl
    where
      go : (b : Bool) → others m r u ≡ b → mark_of k after u ≡ bit b
      go true e =
          let x = (exactly u l).1 ((others_exactly m w r u there).0 e) in
          ⊎_elim (λ y. absurd (none_has k after u (y ∙ zero_mark u l) x)) (λ y. y.0) (h.grown.mark u)
      go false e =
          ⊎_elim
          (λ y. y ∙ zero_mark u l)
          (λ y. absurd (true≢false (sym ((others_exactly m w r u there).1 ((exactly u l).0 (ap (λ (x : ℕ). not (eqb x 0)) y.0))) ∙ e)))
          (h.grown.mark u)

  past_stays : (u : ℕ) → m.rows 5 ≤ u → mark_of k after u ≡ mark_of k start u
  past_stays u l = ⊎_elim (λ y. y) (λ y. let z = y.1 in absurd (omega arith)) (h.grown.mark u)

  beyond_stays : (i : ℕ) → room k (m.rows 5) ≤ i → get_or after i 0 ≡ get_or scratch i 0
  beyond_stays i l = h.grown.beyond i l ∙ cleared_beyond (room k (m.rows 5)) scratch long i l

  few : (i : ℕ) → i < room k (m.rows 5) → get_or after i 0 < 256
  few i l = let z = first_zero i l in h.grown.fits i (omega (arith, z))

  pub counted : {c : ℕ} → c ≡ count_below (is_marked k after) (m.rows 5) → Counted m k r c scratch after
  counted e =
      record {
        is = e ∙ count_same (is_marked k after) (others m r) (m.rows 5) (λ i l. marked_is (others m r i) (mark_of k after i) (mark_is i l));
        marks =
            all_marked k (others m r) (m.rows 5) scratch after long (h.grown.long ∙ cleared_long (room k (m.rows 5)) scratch long)
            (byte_is (others m r) (m.rows 5) start after k few first_zero mark_is past_stays) beyond_stays;
      }

-- ---- a bit for each of the ports, none of them marked
pub none_shut : (n q : ℕ) → Has Bits (replicate n 0) q → ⊥
none_shut n q = none_has Bits (replicate n 0) q (ap (λ x. bit_at x (q % 8)) (all_zero n (q / 8)) ∙ bit_at-zero (q % 8))
