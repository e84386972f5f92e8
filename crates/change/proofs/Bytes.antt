-- The bytes of a pack with a row in the place of a record. Assumes nothing.
use Prim.Native.Nat.{ℕ, ◌+◌, ◌-◌, ◌*◌, ◌/◌, ◌<◌, ◌≤◌}
use mathlib.Core.Path.{◌≡◌, ◌∙◌, ap}
use mathlib.Core.List.{List, ◌++◌}
use native.Mathlib.Omega.{arith}
use lib.ListN.{length, get_or, take, drop, length-append, length-drop, get_or-append}
use lib.Seq.{length-take-le, get_or-take, get_or-drop}
use Rattle.std.proofs.lemmas.List.{get_or-append_right}
use Rattle.schema.specs.Bytes.{byte_of}
use Rattle.change.specs.Change.{changed}

module _ (p : List ℕ) (n : ℕ) (row : List ℕ) (there : n < length p / 64) (sized : length row ≡ 64) where
  front : length (take (n * 64) p) ≡ n * 64
  front = length-take-le (n * 64) p (omega arith)

  pub changed-length : length (changed p n row) ≡ length p
  unfolding changed
  changed-length =
      let f = front in
      simp (length-append, length-drop) (omega (arith, sized))

  pub changed-before : (i : ℕ) → i < n * 64 → get_or (changed p n row) i 0 ≡ get_or p i 0
  unfolding changed
  changed-before i l =
      let f = front in
      get_or-append (take (n * 64) p) (row ++ drop (n * 64 + 64) p) 0 i (omega arith) ∙ get_or-take (n * 64) p i 0 l

  pub changed-behind : (i : ℕ) → n * 64 + 64 ≤ i → get_or (changed p n row) i 0 ≡ get_or p i 0
  unfolding changed
  changed-behind i l =
      let k : i - n * 64 - 64 + (n * 64 + 64) ≡ i = omega arith in
      let j : n * 64 + 64 + (i - n * 64 - 64) ≡ i = omega arith in
      get_or-append_right (take (n * 64) p) (row ++ drop (n * 64 + 64) p) (n * 64) i 0 front (omega arith)
      ∙ (get_or-append_right row (drop (n * 64 + 64) p) 64 (i - n * 64) 0 sized (omega arith)
      ∙ (get_or-drop (n * 64 + 64) p (i - n * 64 - 64) 0 ∙ ap (λ m. get_or p m 0) j))

  pub changed-record : (j : ℕ) → j < 64 → byte_of (changed p n row) n j ≡ get_or row j 0
  unfolding changed
  changed-record j l =
      let k : n * 64 + j - n * 64 ≡ j = omega arith in
      get_or-append_right (take (n * 64) p) (row ++ drop (n * 64 + 64) p) (n * 64) (n * 64 + j) 0 front (omega arith)
      ∙ (ap (λ m. get_or (row ++ drop (n * 64 + 64) p) m 0) k
      ∙ get_or-append row (drop (n * 64 + 64) p) 0 j (omega (arith, sized)))
