-- Bytes of a record written over others in the other order, for any width. Assumes nothing.
use Rattle.std.proofs.Common.{ℕ, zero, suc, ◌+◌, ◌-◌, ◌<◌, ◌≤◌, List, [], ◌∷◌, get_or, length, ◌≡◌, refl, ◌∙◌, ap, arith}
use Rattle.schema.specs.Bytes.{byte_of}
use Rattle.convert.specs.Steps.{Turns}
use Rattle.convert.proofs.Puts.{put, length-put, put_below, put_inside, put_above}

-- the k bytes of record n from byte j on, the last one first
abbrev pub bytes_back : ℕ → List ℕ → ℕ → ℕ → List ℕ
bytes_back zero p n j = []
bytes_back (suc k) p n j = byte_of p n (j + k) ∷ bytes_back k p n j

length-bytes_back : (k : ℕ) (p : List ℕ) (n j : ℕ) → length (bytes_back k p n j) ≡ k
length-bytes_back zero p n j = refl
length-bytes_back (suc k) p n j = ap suc (length-bytes_back k p n j)

bytes_back_at : (k : ℕ) (p : List ℕ) (n j i : ℕ) → i < k → get_or (bytes_back k p n j) i 0 ≡ byte_of p n (j + (k - 1 - i))
bytes_back_at zero p n j i h = absurd (omega arith)
bytes_back_at (suc k) p n j zero h = let e : suc k - 1 - 0 ≡ k = omega arith in rw e refl
bytes_back_at (suc k) p n j (suc i) h =
    let e : suc k - 1 - suc i ≡ k - 1 - i = omega arith in
    rw e (bytes_back_at k p n j i (omega arith))

-- written over the k bytes from j on of a record a
pub turns_put : (k : ℕ) (p : List ℕ) (n j : ℕ) (a ys : List ℕ) → ys ≡ bytes_back k p n j → j + k ≤ length a → Turns k p n j a (put j k a ys)
turns_put k p n j a ys e h =
    let sized : length ys ≡ k = ap length e ∙ length-bytes_back k p n j in
    record {
      sized = length-put j k a ys sized h;
      these = λ i l.
          let read : get_or ys i 0 ≡ get_or (bytes_back k p n j) i 0 = ap (λ (xs : List ℕ). get_or xs i 0) e in
          put_inside j k a ys i sized l (omega arith) ∙ (read ∙ bytes_back_at k p n j i l);
      before = λ i l. put_below j k a ys i l (omega arith);
      after = λ i l. put_above j k a ys i sized l h;
    }
