-- Two federate packs that differ only in the storage numbers have enclaves that do, with their bounds, and the same federate and routes.
-- Assumes nothing.
use Prim.Native.Nat.{ℕ, ◌+◌, ◌*◌, ◌<◌}
use mathlib.Core.Bool.{true}
use mathlib.Core.Path.{◌≡◌, ◌∙◌, sym}
use mathlib.Core.List.{List}
use native.Mathlib.Decide.{dec_le}
use native.Mathlib.Omega.{arith}
use borrow.Author.Tests.{eqb-true}
use Rattle.schema.specs.Layout as layout
use Rattle.schema.specs.Bytes.{byte_of}
use Rattle.schema.specs.Rows.{federate_of, route_of, enclave_at, federate_at, route_at}
use Rattle.schema.specs.Records.{is_of}
use Rattle.federate.specs.Records.{enclave_pack}
use Rattle.federate.proofs.PartBytes.{many, byte_inside, byte-outside}
use Rattle.federate.proofs.Parts.{own_byte}
use Rattle.federate.proofs.SameEnclaves.{same_bytes, same_lengths}
use Rattle.larger_bounds.specs.Packs.{StorageByte, DifferInStorage, state_bound, action_bound}
use Rattle.larger_bounds.proofs.RowBytes.{number_same, row_same}
use Rattle.larger_bounds.proofs.SamePacks.{same_tables, record_same}

-- the bounds of an enclave are those of its pack
module _ (p : List ℕ) (n : ℕ) where
  pub own-state : state_bound (enclave_pack p n) 0 ≡ state_bound p n
  unfolding enclave_at
  own-state = number_same p (enclave_pack p n) n 0 4 12 (λ j l. own_byte p n j (omega arith))

  pub own-action : action_bound (enclave_pack p n) 0 ≡ action_bound p n
  unfolding enclave_at
  own-action = number_same p (enclave_pack p n) n 0 4 16 (λ j l. own_byte p n j (omega arith))

module _ (p q : List ℕ) (d : DifferInStorage p q) where
  -- their enclaves' packs differ only in the storage numbers
  pub parts-differ : (n : ℕ) → DifferInStorage (enclave_pack p n) (enclave_pack q n)
  parts-differ n = (same_lengths p q (same_tables p q d) n, bytes)
    where
      same : many q n ≡ many p n
      same = same_bytes p q (same_tables p q d) n

      bytes : (m j : ℕ) → j < 64 → (StorageByte (enclave_pack p n) m j → ⊥) → byte_of (enclave_pack q n) m j ≡ byte_of (enclave_pack p n) m j
      bytes m j l o =
          elim (dec_le (many p n) (m * 64 + j)) [
            | yes g ↦ byte-outside q n m j (rw same g) ∙ sym (byte-outside p n m j g)
            | no g ↦
                byte_inside q n m j (rw same (omega arith))
                ∙ d.1 (n + m) j l (λ s. o (byte_inside p n m 0 (omega arith) ∙ s.0, s.1, s.2))
                ∙ sym (byte_inside p n m j (omega arith))
          ]

  -- a record that is no enclave's
  other : (t n : ℕ) → (t ≡ 1 → ⊥) → is_of p t n ≡ true → byte_of p n 0 ≡ 1 → ⊥
  other t n o e f = o (sym (eqb-true (byte_of p n 0) t e) ∙ f)

  pub federate-same : byte_of p 0 0 ≡ 0 → federate_at q 0 ≡ federate_at p 0
  unfolding federate_at
  federate-same z = row_same p q 0 0 federate_of layout.federate (omega arith) (record_same p q d 0 (λ e. omega arith))

  pub route-same : (n : ℕ) → is_of p 23 n ≡ true → route_at q n ≡ route_at p n
  unfolding route_at
  route-same n e = row_same p q n n route_of layout.routes (omega arith) (record_same p q d n (other 23 n (λ x. omega arith) e))
