-- What a reaction reaches: through its ports the reactions that they trigger, and what those reach. Assumes nothing.
use Rattle.std.specs.Prelude.{ℕ, zero, suc, ◌<◌, ◌≡◌, Bool, false, not, ◌&&◌, ◌||◌, eqb}
use Rattle.checks.specs.Image.{Image}
use Rattle.rising.specs.Rising.{stands_on, effects_of, port_of, triggers_of, target_of}

-- reaction r triggers reaction u: by the port at some place of its effects, at some place of that port's triggers
pub record Triggers (m : Image) (r u : ℕ) : Type 0 where
  pub effect : ℕ
  pub trigger : ℕ
  pub effect_there : effect < effects_of m r
  pub trigger_there : trigger < triggers_of m (port_of m r effect)
  pub target : target_of m (port_of m r effect) trigger ≡ u

-- there is a way from reaction r to reaction u: one trigger, or a trigger and then a way
pub data Reaches (m : Image) : ℕ → ℕ → Type 0 where
  at_once : {r u : ℕ} → Triggers m r u → Reaches m r u
  by_way : {r t u : ℕ} → Triggers m r t → Reaches m t u → Reaches m r u

-- some number below n passes a test
unfoldable pub some_below : (ℕ → Bool) → ℕ → Bool
some_below f zero = false
some_below f (suc n) = some_below f n || f n

-- the same as a test: a way of at most k triggers
unfoldable pub reached_in : Image → ℕ → ℕ → ℕ → Bool
reached_in m zero r u = false
reached_in m (suc k) r u =
    some_below
    (λ e. some_below (λ j. eqb (target_of m (port_of m r e) j) u || reached_in m k (target_of m (port_of m r e) j) u) (triggers_of m (port_of m r e)))
    (effects_of m r)

-- where levels rise, as many triggers as u's level are enough
abbrev pub reached : Image → ℕ → ℕ → Bool
reached m r u = reached_in m (stands_on m u) r u

-- the reactions other than r that r reaches
abbrev pub others : Image → ℕ → ℕ → Bool
others m r u = not (eqb u r) && reached m r u
