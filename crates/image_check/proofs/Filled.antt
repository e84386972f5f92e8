-- Laws of eight numbers that hold a refusal. Assumes nothing.
use Rattle.std.proofs.Common.{◌≡◌, ℕ, ◌+◌, ◌-◌, ◌≤◌, List, ◌++◌, length, take, replicate, ap, ◌∙◌, arith}
use Rattle.std.proofs.lemmas.List.{take-replicate}
use lib.Seq.{take-append-add}
use Rattle.answers.specs.declared.Refusal.{Refusal}
use Rattle.answers.specs.Numbers.{numbers}
use Rattle.answers.proofs.RefusalNumbers.{numbers-few}
use Rattle.image_check.specs.Answered.{filled}

filled-first : (xs : List ℕ) → length xs ≤ 8 → take 8 (xs ++ replicate 8 0) ≡ filled xs
filled-first xs h =
    let e : 8 ≡ length xs + (8 - length xs) = omega arith in
    ap (λ (k : ℕ). take k (xs ++ replicate 8 0)) e
    ∙ take-append-add xs (replicate 8 0) (8 - length xs)
    ∙ ap (λ (ys : List ℕ). xs ++ ys) (take-replicate (8 - length xs) 8 0 (omega arith))

-- a refusal's numbers
pub filled_refusal : (r : Refusal) → take 8 (numbers r ++ replicate 8 0) ≡ filled (numbers r)
filled_refusal r = filled-first (numbers r) (omega (arith, numbers-few r))
