-- What stands in a list after a part of it was written: before the part, in it and behind it. Assumes nothing.
use Rattle.std.proofs.Common.{ℕ, ◌+◌, ◌-◌, ◌<◌, ◌≤◌, List, ◌++◌, get_or, take, drop, length, ◌≡◌, ◌∙◌, ap, arith, length-append, length-drop, length-take-le, get_or-take, get_or-drop, drop-drop}
use Rattle.std.proofs.lemmas.List.{get_or_append_left, get_or-append_right}

-- xs with ys in the place of its k elements from a on
abbrev pub put : ℕ → ℕ → List ℕ → List ℕ → List ℕ
put a k xs ys = take a xs ++ (ys ++ drop k (drop a xs))

module _ (a k : ℕ) (xs ys : List ℕ) where
  pub length-put : length ys ≡ k → a + k ≤ length xs → length (put a k xs ys) ≡ length xs
  length-put e h =
      let t = length-take-le a xs (omega arith) in
      simp (length-append, length-drop) (omega arith)

  pub put_below : (i : ℕ) → i < a → a ≤ length xs → get_or (put a k xs ys) i 0 ≡ get_or xs i 0
  put_below i l h =
      let t = length-take-le a xs h in
      get_or_append_left (take a xs) _ 0 i (omega arith) ∙ get_or-take a xs i 0 l

  pub put_inside : (i : ℕ) → length ys ≡ k → i < k → a ≤ length xs → get_or (put a k xs ys) (a + i) 0 ≡ get_or ys i 0
  put_inside i e l h =
      let s : a + i - a ≡ i = omega arith in
      rw s at (get_or-append_right (take a xs) (ys ++ drop k (drop a xs)) a (a + i) 0 (length-take-le a xs h) (omega arith))
      ∙ get_or_append_left ys _ 0 i (omega arith)

  pub put_above : (i : ℕ) → length ys ≡ k → a + k ≤ i → a + k ≤ length xs → get_or (put a k xs ys) i 0 ≡ get_or xs i 0
  put_above i e l h =
      let s : a + k + (i - a - k) ≡ i = omega arith in
      get_or-append_right (take a xs) (ys ++ drop k (drop a xs)) a i 0 (length-take-le a xs (omega arith)) (omega arith)
      ∙ (get_or-append_right ys (drop k (drop a xs)) k (i - a) 0 e (omega arith)
      ∙ (ap (λ (zs : List ℕ). get_or zs (i - a - k) 0) (drop-drop k a xs)
      ∙ (get_or-drop (a + k) xs (i - a - k) 0 ∙ ap (λ (m : ℕ). get_or xs m 0) s)))
