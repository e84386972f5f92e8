-- Tables as numbers: each number below the total is that of one table, and each table of small bytes has such a number. Assumes nothing.
use Prim.Native.Nat.{ℕ, zero, suc, ◌+◌, ◌-◌, ◌*◌, ◌/◌, ◌%◌, ◌^◌, ◌<◌, ◌≤◌}
use mathlib.Core.Bool.{true}
use mathlib.Core.Path.{◌≡◌, refl, sym, ◌∙◌}
use mathlib.Core.List.{List, [], ◌∷◌, ◌++◌, append_assoc, append-nil}
use native.Mathlib.Nat.{mul_comm, pow-zero, pow-suc, pow-le-pow_left, pow-le-pow_right}
use native.Mathlib.Numerals.{add-one}
use native.Mathlib.Omega.{arith}
use lib.ListN.{length, get_or, set, take, drop}
use Rattle.std.proofs.lemmas.List.{length_push, get_or_push, get_or_append_left, get_or_past, take_all, take_more, drop-set, drop_all}
use Rattle.std.proofs.lemmas.Nat.{div-mul-add, mod-mul-add, mul-add-lt, div_below, mod_below, div-add-mod'}
use Rattle.identity.proofs.Tests.{below_or_not}
use Rattle.trees.specs.Trees.{at_most, value, digits}
use Rattle.trees.proofs.TreeLaws.{each_at_most}

pub digits_length : (b k v : ℕ) → length (digits b k v) ≡ k
unfolding digits
digits_length b zero v = refl
digits_length b (suc k) v =
    let h = digits_length b k (v / b) in
    let e = length_push (digits b k (v / b)) (v % b) in
    omega arith

pub digits_below : (b k v : ℕ) → 0 < b → (i : ℕ) → get_or (digits b k v) i 0 < b
unfolding digits
digits_below b zero v p i = p
digits_below b (suc k) v p i =
    let xs = digits b k (v / b) in
    let l = digits_length b k (v / b) in
    let whole = length_push xs (v % b) in
    below_or_not i k
    (λ h. let u : i < length xs = omega arith in rw (get_or_append_left xs ((v % b) ∷ []) 0 i u) (digits_below b k (v / b) p i))
    (λ h. below_or_not k i
    (λ g. let u : length (xs ++ (v % b) ∷ []) ≤ i = omega arith in rw (get_or_past (xs ++ (v % b) ∷ []) i 0 u) p)
    (λ g. let u : length xs ≡ i = omega arith in rw (get_or_push xs (v % b) 0 i u) (mod_below v b p)))

value_same : (b : ℕ) (t u : List ℕ) (k : ℕ) → ((i : ℕ) → i < k → get_or t i 0 ≡ get_or u i 0) → value b t k ≡ value b u k
unfolding value
value_same b t u zero h = refl
value_same b t u (suc k) h = rw (value_same b t u k (λ i l. h i (omega arith)), h k (omega arith)) refl

-- the number of a number's digits
pub value_digits : (b k v : ℕ) → 0 < b → v < b ^ k → value b (digits b k v) k ≡ v
unfolding value digits
value_digits b zero v p h = let e = pow-zero b in omega arith
value_digits b (suc k) v p h =
    let xs = digits b k (v / b) in
    let l = digits_length b k (v / b) in
    let small : v < b ^ k * b = rw (pow-suc b k) at h in
    let front = value_same b (xs ++ (v % b) ∷ []) xs k (λ i u. let w : i < length xs = omega arith in get_or_append_left xs ((v % b) ∷ []) 0 i w) in
    let last = get_or_push xs (v % b) 0 k l in
    rw (front, last, value_digits b k (v / b) p (div_below v b (b ^ k) p small)) (div-add-mod' v b)

-- the digits of the number of bytes below the base
digits_of : (b : ℕ) (t : List ℕ) (k : ℕ) → k ≤ length t → ((i : ℕ) → get_or t i 0 < b) → digits b k (value b t k) ≡ take k t
unfolding value digits
digits_of b t zero l h = refl
digits_of b t (suc k) l h =
    let d = div-mul-add (value b t k) b (get_or t k 0) (h k) in
    let m = mod-mul-add (value b t k) b (get_or t k 0) (h k) in
    rw (d, m, digits_of b t k (omega arith) h) (sym (rw add-one at (take_more t k 0 (omega arith))))

pub digits_value : (b k : ℕ) (t : List ℕ) → length t ≡ k → ((i : ℕ) → get_or t i 0 < b) → digits b k (value b t k) ≡ t
digits_value b k t l h = digits_of b t k (omega arith) h ∙ take_all k t (omega arith)

pub value_below : (b : ℕ) (t : List ℕ) (k : ℕ) → ((i : ℕ) → get_or t i 0 < b) → value b t k < b ^ k
unfolding value
value_below b t zero h = let e = pow-zero b in omega arith
value_below b t (suc k) h =
    rw (pow-suc b k, mul_comm (b ^ k) b) (mul-add-lt (value b t k) b (get_or t k 0) (b ^ k) (value_below b t k h) (h k))

-- no byte, and one more
pub value_none : (b : ℕ) (t : List ℕ) → value b t 0 ≡ 0
unfolding value
value_none b t = refl

pub value_more : (b : ℕ) (t : List ℕ) (i : ℕ) → value b t i * b + get_or t i 0 ≡ value b t (i + 1)
unfolding value
value_more b t i = rw add-one refl

-- a table of four bytes and their number stay small
pub value_small : (n : ℕ) (t : List ℕ) (k : ℕ) → n ≤ 4 → k ≤ 4 → at_most n t ≡ true → value (n + 1) t k ≤ 624
value_small n t k l h e =
    let v = value_below (n + 1) t k (λ i. let u = each_at_most n t e i in omega arith) in
    let p : (n + 1) ^ k ≤ 5 ^ k = pow-le-pow_left (omega arith) k in
    let q : 5 ^ k ≤ 5 ^ 4 = pow-le-pow_right (omega arith) h in
    omega arith

pub turn_small : (n : ℕ) (t : List ℕ) (i : ℕ) → n ≤ 4 → i < 4 → at_most n t ≡ true → value (n + 1) t i * (n + 1) + get_or t i 0 ≤ 624
turn_small n t i l h e = rw (value_more (n + 1) t i) (value_small n t (i + 1) l (omega arith) e)

pub ruleset value_laws = (value_none, value_more, value_small, turn_small)

pub total_small : (n : ℕ) → n ≤ 4 → (n + 1) ^ n ≤ 625
total_small n l =
    let p : (n + 1) ^ n ≤ 5 ^ n = pow-le-pow_left (omega arith) n in
    let q : 5 ^ n ≤ 5 ^ 4 = pow-le-pow_right (omega arith) l in
    omega arith

pub ruleset total_laws = (total_small)

-- one digit written, and none left
pub digit_step :
    (b k : ℕ) (t : List ℕ) (v : ℕ) → 0 < k → k ≤ length t
    → digits b (k - 1) (v / b) ++ drop (k - 1) (set t (k - 1) (v % b)) ≡ digits b k v ++ drop k t
unfolding digits
digit_step b zero t v h l = absurd (omega arith)
digit_step b (suc k) t v h l =
    let e : suc k - 1 ≡ k = omega arith in
    let d : drop k (set t k (v % b)) ≡ (v % b) ∷ drop (suc k) t = rw add-one at (drop-set t k (v % b) (omega arith)) in
    rw (e, d) (sym (append_assoc (digits b k (v / b)) ((v % b) ∷ []) (drop (suc k) t)))

pub digits_none : (b : ℕ) (t : List ℕ) (v : ℕ) → digits b 0 v ++ drop 0 t ≡ t
unfolding digits
digits_none b t v = refl

-- all written
pub digits_all : (b k : ℕ) (t : List ℕ) (v : ℕ) → length t ≤ k → digits b k v ++ drop k t ≡ digits b k v
digits_all b k t v l = rw (drop_all k t l) (append-nil (digits b k v))

pub ruleset digit_laws = (digit_step, digits_none, digits_all)
