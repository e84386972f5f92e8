-- Two numbers over their greatest common divisor are in lowest terms, and no other fraction of that value is. Assumes nothing.
use Prim.Native.Nat.{ℕ, ◌*◌, ◌/◌, ◌<◌, ◌∣◌}
use mathlib.Core.Path.{◌≡◌, refl, ◌∙◌, sym, ap}
use native.Mathlib.Nat.{mul_assoc, mul_comm, mul_right_comm, one-mul, div-mul_cancel, mul-div_cancel}
use native.Mathlib.Nat.{dvd-mul_left, dvd-mul_right, mul-dvd-mul_right, dvd_of_mul-dvd-mul_right}
use native.Mathlib.Nat.{dvd_antisymm, eq-one_of_dvd-one}
use Rattle.tally.specs.declared.Fraction.{Fraction}
use Rattle.tally.specs.Gcd.{gcd}
use Rattle.tally.specs.Fractions.{lowest}
use Rattle.tally.specs.Promises.{InLowestTerms}
use Rattle.tally.proofs.GcdLaws.{gcd-divides, gcd-divided, gcd-divided-times, gcd-positive}

-- a is x times g, b is y times g: x over y is a over b
same-value : (x y g : ℕ) {a b : ℕ} → x * g ≡ a → y * g ≡ b → x * b ≡ a * y
same-value x y g p q =
    ap (λ (n : ℕ). x * n) (sym q ∙ mul_comm y g) ∙ (sym (mul_assoc x g y) ∙ ap (λ (n : ℕ). n * y) p)

pub in-lowest-terms : (a b : ℕ) → 0 < b → InLowestTerms a b (lowest a b)
unfolding lowest
in-lowest-terms a b h = (same-value (a / g) (b / g) g above below, only_one)
  where
    g : ℕ
    g = gcd a b

    above : a / g * g ≡ a
    above = div-mul_cancel g (gcd-divides a b).0

    below : b / g * g ≡ b
    below = div-mul_cancel g (gcd-divides a b).1

    only_one : (k : ℕ) → k ∣ a / g → k ∣ b / g → k ≡ 1
    only_one k p q =
        let d : k * g ∣ a = rw above at (mul-dvd-mul_right k p g) in
        let e : k * g ∣ b = rw below at (mul-dvd-mul_right k q g) in
        let f : k * g ∣ 1 * g = rw one-mul (gcd-divided a b (k * g) d e) in
        eq-one_of_dvd-one (dvd_of_mul-dvd-mul_right k (gcd-positive a b h) f)

-- a common factor cancels
cancel : (x y n : ℕ) → 0 < n → x * n ≡ y * n → x ≡ y
cancel x y n h e = sym (mul-div_cancel x h) ∙ (ap (λ (m : ℕ). m / n) e ∙ mul-div_cancel y h)

-- x over y and u over v are a over b: crosswise they are equal
crossed : (x y u v a b : ℕ) → 0 < b → x * b ≡ a * y → u * b ≡ a * v → x * v ≡ u * y
crossed x y u v a b h p q =
    cancel (x * v) (u * y) b h (cc (mul_right_comm x v b, mul_right_comm a y v, mul_right_comm u b y))

-- where only 1 divides both x and y, y divides v
divides-other : (x y u v : ℕ) → x * v ≡ u * y → ((k : ℕ) → k ∣ x → k ∣ y → k ≡ 1) → y ∣ v
divides-other x y u v e only =
    let p : y ∣ x * v = rw e (dvd-mul_left y u) in
    let d = gcd-divides x y in
    rw (only (gcd x y) d.0 d.1, one-mul) at (gcd-divided-times x y v y p (dvd-mul_right y v))

same :
    {a b c d : ℕ} → a ≡ b → c ≡ d
    → ◌≡◌ {A = Fraction} (record { numerator = a; denominator = c }) (record { numerator = b; denominator = d })
same p q = rw (p, q) refl

-- a value has one fraction in lowest terms
pub one-lowest : (a b : ℕ) (f g : Fraction) → 0 < b → InLowestTerms a b f → InLowestTerms a b g → f ≡ g
one-lowest a b f g h p q =
    let e = crossed _ _ _ _ a b h p.0 q.0 in
    let d = dvd_antisymm (divides-other _ _ _ _ e p.1) (divides-other _ _ _ _ (sym e) q.1) in
    same (cancel _ _ b h (p.0 ∙ (ap (λ (n : ℕ). a * n) d ∙ sym q.0))) d
