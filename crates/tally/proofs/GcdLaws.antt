-- Laws of the greatest common divisor: one remainder, what it divides, and what divides it. Assumes nothing.
use Prim.Native.Nat.{ℕ, zero, suc, ◌+◌, ◌*◌, ◌/◌, ◌%◌, ◌≤◌, ◌<◌, ◌∣◌}
use mathlib.Core.Path.{◌≡◌, refl}
use native.Mathlib.Omega.{arith}
use native.Mathlib.Nat.{mod-lt, div-add-mod, mul-one, mul_right_comm, add-mul}
use native.Mathlib.Nat.{dvd_refl, dvd-zero, dvd-mod_iff, dvd-mul_right_of_dvd, dvd-add_iff_right, pos_of_dvd_of_pos}
use Rattle.tally.specs.Gcd.{remainders, gcd}

-- a remainder by b + 1 is at most b
remainder-small : (a b : ℕ) → a % suc b ≤ b
remainder-small a b = omega (arith, mod-lt a {m = suc b} (omega arith))

-- more remainders than are needed change nothing
enough : (n m a b : ℕ) → b ≤ n → b ≤ m → remainders n a b ≡ remainders m a b
unfolding remainders
enough zero zero a b h g = refl
enough zero (suc m) a zero h g = refl
enough zero (suc m) a (suc b) h g = absurd (omega arith)
enough (suc n) zero a zero h g = refl
enough (suc n) zero a (suc b) h g = absurd (omega arith)
enough (suc n) (suc m) a zero h g = refl
enough (suc n) (suc m) a (suc b) h g =
    let s = remainder-small a b in
    enough n m (suc b) (a % suc b) (omega arith) (omega arith)

pub gcd-step : (a b : ℕ) → 0 < b → gcd a b ≡ gcd b (a % b)
unfolding gcd remainders
gcd-step a zero h = absurd (omega arith)
gcd-step a (suc b) h = enough b (a % suc b) (suc b) (a % suc b) (remainder-small a b) (omega arith)

pub gcd-zero : (a : ℕ) → gcd a 0 ≡ a
unfolding gcd remainders
gcd-zero a = refl

divides : (n a b : ℕ) → b ≤ n → (remainders n a b ∣ a) × (remainders n a b ∣ b)
unfolding remainders
divides zero a zero h = (dvd_refl a, dvd-zero a)
divides zero a (suc b) h = absurd (omega arith)
divides (suc n) a zero h = (dvd_refl a, dvd-zero a)
divides (suc n) a (suc b) h =
    let d = divides n (suc b) (a % suc b) (omega (arith, remainder-small a b)) in
    ((dvd-mod_iff _ d.0).0 d.1, d.0)

pub gcd-divides : (a b : ℕ) → (gcd a b ∣ a) × (gcd a b ∣ b)
unfolding gcd
gcd-divides a b = divides b a b (omega arith)

-- what divides k times both numbers divides k times the remainder, and so k times the greatest common divisor
remainder-divided : (a b k m : ℕ) → m ∣ a * k → m ∣ b * k → m ∣ a % b * k
remainder-divided a b k m p q =
    let d : m ∣ b * (a / b) * k = rw mul_right_comm (dvd-mul_right_of_dvd m q (a / b)) in
    let e : m ∣ b * (a / b) * k + a % b * k = rw (← add-mul, div-add-mod) p in
    (dvd-add_iff_right m d).1 e

divided : (n a b k m : ℕ) → m ∣ a * k → m ∣ b * k → m ∣ remainders n a b * k
unfolding remainders
divided zero a b k m p q = p
divided (suc n) a zero k m p q = p
divided (suc n) a (suc b) k m p q = divided n (suc b) (a % suc b) k m q (remainder-divided a (suc b) k m p q)

pub gcd-divided-times : (a b k m : ℕ) → m ∣ a * k → m ∣ b * k → m ∣ gcd a b * k
unfolding gcd
gcd-divided-times a b = divided b a b

-- every common divisor divides the greatest
pub gcd-divided : (a b m : ℕ) → m ∣ a → m ∣ b → m ∣ gcd a b
gcd-divided a b m p q = rw mul-one at (gcd-divided-times a b 1 m (rw mul-one p) (rw mul-one q))

pub gcd-positive : (a b : ℕ) → 0 < b → 0 < gcd a b
gcd-positive a b h = pos_of_dvd_of_pos (gcd-divides a b).1 h
