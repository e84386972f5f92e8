-- A row that its table has lies before the enclave's end; starts that are all 0 rise. Assumes nothing.
use Rattle.std.proofs.Common.{ℕ, zero, suc, ◌+◌, ◌-◌, ◌<◌, ◌≤◌, ◌≡◌, refl, List, arith}
use lib.ListN.{get_or, replicate}
use Rattle.schema.specs.Tables.{tables, start_of, rows_of, IsRising}

rises_to : (s : List ℕ) → IsRising s → (k t : ℕ) → t + k ≡ tables → start_of s t ≤ start_of s tables
rises_to s up zero t e = let same : t ≡ tables = omega arith in rw same (omega arith)
rises_to s up (suc k) t e =
    let next : start_of s t ≤ start_of s (t + 1) = up t (omega arith) in
    let rest : start_of s (t + 1) ≤ start_of s tables = rises_to s up k (t + 1) (omega arith) in
    omega (arith, next, rest)

pub row_inside : (s : List ℕ) (t i n : ℕ) → IsRising s → t < tables → n ≡ start_of s t + i → i < rows_of s t → n < start_of s tables
row_inside s t i n up known e h =
    let rest : start_of s (t + 1) ≤ start_of s tables = rises_to s up (tables - (t + 1)) (t + 1) (omega arith) in
    omega (arith, rest)

zeros-at : (n t : ℕ) → ◌≡◌ {A = ℕ} (get_or (replicate n 0) t 0) 0
zeros-at zero t = refl
zeros-at (suc n) zero = refl
zeros-at (suc n) (suc t) = zeros-at n t

pub zeros_rise : (n : ℕ) → IsRising (replicate n 0)
zeros_rise n t l = rw (zeros-at n t, zeros-at n (t + 1)) (omega arith)
