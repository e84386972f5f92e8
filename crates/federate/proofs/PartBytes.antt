-- The bytes of an enclave's pack: inside it they are the federate's, past its end 0. Assumes nothing.
use Prim.Native.Nat.{ℕ, ◌+◌, ◌-◌, ◌*◌, ◌<◌, ◌≤◌}
use mathlib.Core.Path.{◌≡◌, ◌∙◌, ap}
use mathlib.Core.List.{List}
use native.Mathlib.Omega.{arith}
use native.Mathlib.Nat.{min-le_left}
use lib.ListN.{length, get_or, drop, length-take, get_or-eq_default}
use lib.Seq.{get_or-take, get_or-drop}
use Rattle.schema.specs.Bytes.{byte_of}
use Rattle.federate.specs.Records.{enclave_end, enclave_pack}

module _ (p : List ℕ) (n : ℕ) where
  abbrev pub own : List ℕ
  own = enclave_pack p n

  abbrev pub many : ℕ
  many = (enclave_end p n - n) * 64

  pub byte_inside : (m j : ℕ) → m * 64 + j < many → byte_of own m j ≡ byte_of p (n + m) j
  byte_inside m j l =
      let e : n * 64 + (m * 64 + j) ≡ (n + m) * 64 + j = omega arith in
      get_or-take many (drop (n * 64) p) (m * 64 + j) 0 l ∙ get_or-drop (n * 64) p (m * 64 + j) 0 ∙ ap (λ (k : ℕ). get_or p k 0) e

  pub byte-outside : (m j : ℕ) → many ≤ m * 64 + j → byte_of own m j ≡ 0
  byte-outside m j l =
      let e : length own ≤ many = rw (length-take many (drop (n * 64) p)) (min-le_left many (length (drop (n * 64) p))) in
      get_or-eq_default own 0 (omega arith)
