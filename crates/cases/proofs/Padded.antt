-- The first bytes of a record, with zeros after them. Assumes nothing.
use Rattle.std.proofs.Common.{◌≡◌, ℕ, ◌+◌, ◌-◌, ◌≤◌, List, ◌++◌, length, take, drop, replicate, refl, sym, ◌∙◌, ap, arith}
use Rattle.std.proofs.lemmas.List.{take-replicate, drop-replicate}
use Rattle.std.proofs.Math.Seq.{take-append-add}
use Rattle.cases.specs.Packs.{padded}

-- they are what is left of 64 zeros
pub zeros_after : (xs : List ℕ) → 4 ≤ length xs → length xs ≤ 64 → padded xs ≡ xs ++ drop (length xs) (replicate 64 0)
unfolding padded
zeros_after xs low high =
    let k : ℕ = 64 - length xs in
    let all : length xs + k ≡ 64 = omega arith in
    ap (λ (j : ℕ). take j (xs ++ replicate 60 0)) (sym all)
    ∙ rw (take-append-add xs (replicate 60 0) k, take-replicate {X = ℕ} k 60 0 (omega arith), drop-replicate {X = ℕ} (length xs) 64 0) refl
