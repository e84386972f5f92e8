-- Bytes of which nothing is hidden are the same in two packs that differ only in what is not looked at, and so are fields of such bytes. Assumes nothing.
use Prim.Native.Nat.{ℕ, zero, suc, ◌+◌, ◌*◌, ◌<◌, ◌≤◌}
use mathlib.Core.Bool.{Bool, true, false, true≢false, not, ◌&&◌, cond}
use mathlib.Core.Path.{◌≡◌, refl, ◌∙◌, sym, ap, fun_ext}
use mathlib.Core.List.{List, [], ◌∷◌}
use native.Mathlib.Omega.{arith}
use lib.Dec.{ltb, eqb}
use borrow.Author.Tests.{ltb-true, lt-ltb, eqb-true}
use Rattle.identity.proofs.Tests.{cases, both, and-false}
use Rattle.schema.specs.Number.{number}
use Rattle.schema.specs.Layout.{Layout, bytes, offset, field_at}
use Rattle.schema.specs.Bytes.{byte_of}
use Rattle.schema.specs.Rows.{field}
use Rattle.packing.specs.declared.PackKind.{PackKind}
use Rattle.packing.specs.declared.PackKind.TheVariants.{Enclave, Federate}
use Rattle.packing.specs.Clean.{zeros}
use Rattle.packing.proofs.Zeros.{zeros_number}
use Rattle.packing.proofs.SameTables.{SameTables}
use Rattle.unlooked.specs.Packs.{Hidden, record_of, zero_bytes, everywhere, unlooked, hides, looked_by, looked, DifferUnlooked}

-- nothing is hidden of byte j of table t; nor of its k bytes from o on, which lie in the record
abbrev pub kept : List Hidden → ℕ → ℕ → Bool
kept [] t j = true
kept (u ∷ us) t j = not (hides u t j) && kept us t j

abbrev pub kept_from : List Hidden → ℕ → ℕ → ℕ → Bool
kept_from us t o zero = true
kept_from us t o (suc k) = kept_from us t o k && (ltb (o + k) 64 && kept us t (o + k))

-- such a byte is looked at as it is
kept_looked : (us : List Hidden) (r : ℕ → ℕ) (j : ℕ) → kept us (r 0) j ≡ true → looked_by us r j ≡ r j
kept_looked [] r j h = refl
kept_looked (u ∷ us) r j h = go (hides u (r 0) j) (kept_looked us r j) h
  where
    go : (b : Bool) → (kept us (r 0) j ≡ true → looked_by us r j ≡ r j) → (not b && kept us (r 0) j) ≡ true → cond b (u.left r j) (looked_by us r j) ≡ r j
    go true i e = absurd (true≢false (sym e))
    go false i e = i e

table_kept : (kind : PackKind) (t : ℕ) → kept (unlooked kind) t 0 ≡ true
table_kept Enclave t = simp and-false
table_kept Federate t = simp and-false

in_record : (p : List ℕ) (n j : ℕ) → j < 64 → record_of p n j ≡ byte_of p n j
in_record p n j l = rw (lt-ltb j 64 l) refl

-- bytes of a record are zero where their number is 0
bytes_zero : (p : List ℕ) (n o k : ℕ) → o + k ≤ 64 → zero_bytes (record_of p n) o k ≡ zeros p (n * 64 + o) k
unfolding zeros
bytes_zero p n o zero h = refl
bytes_zero p n o (suc k) h =
    let e : n * 64 + o + k ≡ n * 64 + (o + k) = omega arith in
    rw (bytes_zero p n o k (omega arith), in_record p n (o + k) (omega arith), e) refl

pub number_zero : (p : List ℕ) (n o k : ℕ) → o + k ≤ 64 → zero_bytes (record_of p n) o k ≡ eqb (number k p (n * 64 + o)) 0
number_zero p n o k h = bytes_zero p n o k h ∙ zeros_number p (n * 64 + o) k

-- the fields of a record of table t of which nothing is hidden, 0 for the others
abbrev pub seen : List Hidden → ℕ → Layout → (ℕ → ℕ) → ℕ → ℕ
seen us t l f k = cond (kept_from us t (offset l k) (bytes (field_at l k))) (f k) 0

module _ (kind : PackKind) (p q : List ℕ) (d : DifferUnlooked kind p q) where
  table_same : (n : ℕ) → byte_of q n 0 ≡ byte_of p n 0
  table_same n =
      let a = kept_looked (unlooked kind) (record_of q n) 0 (table_kept kind (byte_of q n 0)) in
      let b = kept_looked (unlooked kind) (record_of p n) 0 (table_kept kind (byte_of p n 0)) in
      sym a ∙ d.1 n 0 (omega arith) ∙ b

  pub same_tables : SameTables p q
  same_tables = record { lengths = d.0; tables = table_same }

  -- record n is of table t
  module _ (n t : ℕ) (e : byte_of p n 0 ≡ t) where
    pub byte_same : (j : ℕ) → kept (unlooked kind) t j ≡ true → j < 64 → byte_of q n j ≡ byte_of p n j
    byte_same j h l =
        let a = kept_looked (unlooked kind) (record_of q n) j (rw (table_same n, e) h) in
        let b = kept_looked (unlooked kind) (record_of p n) j (rw e h) in
        sym (a ∙ in_record q n j l) ∙ d.1 n j l ∙ b ∙ in_record p n j l

    number_same : (k o : ℕ) → kept_from (unlooked kind) t o k ≡ true → number k q (n * 64 + o) ≡ number k p (n * 64 + o)
    unfolding number
    number_same zero o h = refl
    number_same (suc k) o h =
        let x : n * 64 + o + k ≡ n * 64 + (o + k) = omega arith in
        let y = both (kept_from (unlooked kind) t o k) _ h in
        let z = both (ltb (o + k) 64) _ y.1 in
        rw (number_same k o y.0, x, byte_same (o + k) z.1 (ltb-true (o + k) 64 z.0)) refl

    fields_same : (l : Layout) → seen (unlooked kind) t l (field q n l) ≡ seen (unlooked kind) t l (field p n l)
    fields_same l =
        fun_ext (λ k.
        cases (kept_from (unlooked kind) t (offset l k) (bytes (field_at l k)))
        (λ h. rw h (number_same (bytes (field_at l k)) (offset l k) h))
        (λ h. rw h refl))

    -- what is made of the fields of which nothing is hidden
    pub made_same :
        {A : Type 0} (of : (ℕ → ℕ) → A) (l : Layout) → ((f : ℕ → ℕ) → of (seen (unlooked kind) t l f) ≡ of f)
        → of (field q n l) ≡ of (field p n l)
    made_same of l only = sym (only (field q n l)) ∙ ap of (fields_same l) ∙ only (field p n l)

-- two packs that may differ so as lines may differ so as stations
pub line_differs : (p q : List ℕ) → DifferUnlooked Federate p q → DifferUnlooked Enclave p q
line_differs p q d = (d.0, λ n j l. go n j l)
  where
    others : (r : ℕ → ℕ) (j : ℕ) → eqb 23 (r 0) ≡ false → looked_by (unlooked Enclave) r j ≡ looked_by everywhere r j
    others r j e = rw e refl

    routes : (n : ℕ) → byte_of p n 0 ≡ 23 → record_of q n ≡ record_of p n
    routes n e = fun_ext (λ j. cases (ltb j 64) (λ h. rw h (byte_same Federate p q d n 23 e j refl (ltb-true j 64 h))) (λ h. rw h refl))

    go : (n j : ℕ) → j < 64 → looked Enclave q n j ≡ looked Enclave p n j
    go n j l =
        let t = table_same Federate p q d n in
        cases (eqb 23 (byte_of p n 0))
        (λ e. let x = routes n (sym (eqb-true 23 (byte_of p n 0) e)) in ap (λ r. looked_by (unlooked Enclave) r j) x)
        (λ e. others (record_of q n) j (rw t e) ∙ d.1 n j l ∙ sym (others (record_of p n) j e))
