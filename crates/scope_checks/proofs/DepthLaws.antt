-- Depths: an array after a store, and one in which none is known. Assumes nothing.
use Rattle.std.proofs.Common.{ℕ, zero, suc, ◌+◌, ◌<◌, ◌≡◌, Bool, true, false, List, [], length, get_or, refl, ◌∙◌, arith, eqb}
use Rattle.std.proofs.Math.ListN.{set, replicate}
use Rattle.std.proofs.lemmas.List.{get_or-set_same, get_or-set_other}
use borrow.Author.Tests.{eqb-true, eqb-false}
use Rattle.checks.specs.Image.{Image}
use Rattle.scope_checks.specs.Links.{links_of, parents}
use Rattle.scope_checks.specs.Depths.{Known}

-- after a store the depths are known still
pub known_set : (m : Image) (ds : List ℕ) (at v : ℕ) → Known m ds → at < length ds → v ≡ links_of (parents m) (m.rows 7) at + 1 → Known m (set ds at v)
unfolding Known
known_set m ds at v known h e i g = by (eqb i at) refl
  where
    by : (t : Bool) → eqb i at ≡ t → get_or (set ds at v) i 0 ≡ links_of (parents m) (m.rows 7) i + 1
    by true q = rw (eqb-true i at q, get_or-set_same ds at v 0 h) e
    by false q = let o = get_or-set_other ds at i v 0 (eqb-false i at q) in o ∙ known i (rw o at g)

-- in an array of zeros none is known
zeros : (n i : ℕ) → get_or {A = ℕ} (replicate n 0) i 0 ≡ 0
zeros zero i = refl
zeros (suc n) zero = refl
zeros (suc n) (suc i) = zeros n i

pub known_none : (m : Image) (n : ℕ) → Known m (replicate n 0)
unfolding Known
known_none m n i h = absurd (omega (arith, zeros n i))

pub known_nowhere : (m : Image) → Known m []
known_nowhere m = known_none m 0
