-- The enclaves of two lines' packs that differ only in what is not looked at: packs that differ only there, and the same identities. Assumes nothing.
use Prim.Native.Nat.{ℕ, zero, suc, ◌+◌, ◌*◌, ◌<◌, ◌≤◌}
use mathlib.Core.Bool.{true}
use mathlib.Core.Path.{◌≡◌, refl, ◌∙◌, sym, ap, fun_ext}
use mathlib.Core.List.{List}
use native.Mathlib.Decide.{dec_le}
use native.Mathlib.Omega.{arith}
use lib.Dec.{ltb}
use borrow.Author.Tests.{ltb-true, eqb-true}
use Rattle.identity.proofs.Tests.{cases}
use Rattle.schema.specs.Bytes.{byte_of}
use Rattle.schema.specs.Records.{is_of}
use Rattle.packing.specs.declared.PackKind.{PackKind}
use Rattle.packing.specs.declared.PackKind.TheVariants.{Enclave}
use Rattle.federate.specs.Records.{enclave_before, enclave_pack}
use Rattle.federate.specs.Enclaves.{id_at}
use Rattle.federate.proofs.PartBytes.{many, byte_inside, byte-outside}
use Rattle.federate.proofs.SameEnclaves.{same_bytes, same_lengths}
use Rattle.unlooked.specs.Packs.{record_of, unlooked, looked_by, looked, DifferUnlooked}
use Rattle.unlooked.proofs.Bytes.{same_tables}
use Rattle.unlooked.proofs.RecordRows.{id_same, no_id_same}

-- a record of an enclave's pack is the line's, or is past it
module _ (p : List ℕ) (n m : ℕ) where
  record_inside : suc m * 64 ≤ many p n → record_of (enclave_pack p n) m ≡ record_of p (n + m)
  record_inside h = fun_ext (λ j. cases (ltb j 64) (λ e. let l = ltb-true j 64 e in rw e (byte_inside p n m j (omega arith))) (λ e. rw e refl))

  record_outside : many p n ≤ m * 64 → record_of (enclave_pack p n) m ≡ (λ j. 0)
  record_outside h = fun_ext (λ j. cases (ltb j 64) (λ e. rw e (byte-outside p n m j (omega arith))) (λ e. rw e refl))

module _ (kind : PackKind) (p q : List ℕ) (d : DifferUnlooked kind p q) where
  pub parts_differ : (n : ℕ) → DifferUnlooked kind (enclave_pack p n) (enclave_pack q n)
  parts_differ n = (same_lengths p q (same_tables kind p q d) n, bytes)
    where
      same : many q n ≡ many p n
      same = same_bytes p q (same_tables kind p q d) n

      bytes : (m j : ℕ) → j < 64 → looked kind (enclave_pack q n) m j ≡ looked kind (enclave_pack p n) m j
      bytes m j l =
          let see : (ℕ → ℕ) → ℕ = λ r. looked_by (unlooked kind) r j in
          elim (dec_le (many p n) (m * 64)) [
            | yes g ↦ ap see (record_outside q n m (rw same g) ∙ sym (record_outside p n m g))
            | no g ↦ ap see (record_inside q n m (rw same (omega arith))) ∙ d.1 (n + m) j l ∙ ap see (sym (record_inside p n m (omega arith)))
          ]

module _ (p q : List ℕ) (d : DifferUnlooked Enclave p q) where
  -- the identity of an enclave, and of the one before
  pub own_id : (n : ℕ) → is_of p 1 n ≡ true → id_at q n ≡ id_at p n
  own_id n e = id_same p q d n (eqb-true (byte_of p n 0) 1 e)

  pub before_id : (n : ℕ) → byte_of p 0 0 ≡ 0 → id_at q (enclave_before p n) ≡ id_at p (enclave_before p n)
  unfolding enclave_before
  before_id zero z = no_id_same p q d 0 z
  before_id (suc n) z = let i = before_id n z in cases (is_of p 1 n) (λ e. rw e (own_id n e)) (λ e. rw e i)
