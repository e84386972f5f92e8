-- A number of 64 bits has twenty digits at most; a refusal's first number is no 0, so its line begins with `refused`. Assumes nothing.
use Rattle.std.proofs.Common.{◌≡◌, ℕ, zero, suc, ◌^◌, ◌<◌, ◌≤◌, decimal, List, [], ◌∷◌, ◌++◌, length, get_or, drop, refl, sym, ◌∙◌, append-nil, append_assoc, codes, arith}
use Rattle.std.proofs.lemmas.Fmt.{length-decimal-le}
use Rattle.std.proofs.lemmas.List.{drop_all}
use Rattle.answers.specs.declared.Refusal.{Refusal}
use Rattle.answers.specs.Numbers.{numbers}
use Rattle.answers.proofs.RefusalNumbers.{number-positive}
use Rattle.line_check.specs.Line.{numbers_text, line, answer_line}

pub few_digits : (n : ℕ) → n < 2 ^ 64 → length (decimal n) ≤ 20
few_digits n h = length-decimal-le 20 n (omega arith) (omega arith) h

-- all numbers written, the line's end is left
pub line_ends : (word text ns : List ℕ) (k : ℕ) → length ns ≤ k → text ++ numbers_text (drop k ns) ≡ word ++ numbers_text ns → text ++ codes "\n" ≡ line word ns
line_ends word text ns k h e =
    let whole : text ≡ word ++ numbers_text ns = sym (append-nil text) ∙ (rw (drop_all k ns h) at e) in
    rw (whole, append_assoc word (numbers_text ns) (codes "\n")) refl

positive-line : (ns : List ℕ) → 1 ≤ get_or ns 0 0 → answer_line ns ≡ line (codes "refused") ns
positive-line [] h = refl
positive-line (zero ∷ ns) h = absurd (omega arith)
positive-line (suc k ∷ ns) h = refl

pub refused_line : (r : Refusal) → answer_line (numbers r) ≡ line (codes "refused") (numbers r)
refused_line r = positive-line (numbers r) (number-positive r)
