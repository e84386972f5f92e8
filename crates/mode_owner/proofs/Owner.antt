-- The owner of a mode that an accepted enclave has, by its consequences: the one reactor that reading every row finds. Assumes nothing.
use Prim.Native.Nat.{ℕ, ◌<◌}
use mathlib.Core.Bool.{true, true≢false}
use mathlib.Core.Path.{◌≡◌, refl, ◌∙◌, sym, ap}
use mathlib.Core.List.{List, [], ◌∷◌, ◌++◌}
use native.Mathlib.Omega.{arith}
use lib.ListN.{get_or}
use borrow.Author.Tests.{lt-ltb}
use Rattle.std.specs.Prelude.{Ok, Err}
use Rattle.answers.specs.declared.Refusal.{Refusal}
use Rattle.answers.specs.Numbers.{numbers}
use Rattle.answers.specs.declared.field.Field.TheVariants as field
use Rattle.answers.specs.Checks.{Check, first, Outcome, passed}
use Rattle.answers.proofs.Laws.{first_past, first_stops}
use Rattle.answers.proofs.Passed.{below}
use Rattle.answers.proofs.RefusalNumbers.{number-positive}
use Rattle.scope_checks.specs.Links.{links}
use Rattle.packing.specs.declared.PackKind.TheVariants.{Enclave}
use Rattle.packing.specs.Packing.{packing_checks}
use Rattle.checks.specs.Image.{Image}
use Rattle.checks.specs.Refs.{ref_to}
use Rattle.enclave.specs.Passes.{enclave_checks}
use Rattle.enclave.specs.Answer.{unless, image_answer, pack_image, enclave_answer}
use Rattle.enclave.proofs.Accepted.{accepted_packed, accepted_checks}
use Rattle.accepted.specs.Modes.{owner_of, holds}
use Rattle.accepted.specs.Worth.{Accepted}
use Rattle.accepted.proofs.Worth.{worth}
use Rattle.mode_owner.specs.Owner.{holders, NoHolder, FirstHolder, image_owner, owner_answer, OwnerIsNamed}
use Rattle.mode_owner.proofs.Holders.{holders-one}

-- that mode j is there
abbrev pub there : Image → ℕ → List Check
there m j = ref_to m.rows 6 0 field.Mode 6 j ∷ []

module _ (m : Image) (j : ℕ) (h : first (enclave_checks m) ≡ passed) where
  past : first (enclave_checks m ++ there m j) ≡ first (there m j)
  past = first_past (enclave_checks m) (there m j) h

  pub not_there : {r : Refusal} → first (there m j) ≡ Err r → image_owner m j ≡ numbers r
  not_there e = rw (past, e) refl

  module _ (e : first (there m j) ≡ passed) where
    inside : j < m.rows 6
    inside = below {cs = []} (record { is = e })

    owned : (owner_of m j < m.rows 2) × (holds m j (owner_of m j) ≡ true) × ((r : ℕ) → r < m.rows 2 → holds m j r ≡ true → r ≡ owner_of m j)
    owned = (worth m h).one_owner j inside

    pub owner_found : image_owner m j ≡ 0 ∷ owner_of m j ∷ []
    owner_found = rw (past, e, holders-one (holds m j) (m.rows 2) (owner_of m j) owned.0 owned.1 owned.2) refl

    -- so the first holder is the one
    pub first_is_owner : {r read : ℕ} → FirstHolder (holds m j) (m.rows 2) r read → image_owner m j ≡ 0 ∷ r ∷ []
    first_is_owner {r} f = rw (owned.2 r f.inside f.holds) owner_found

    pub some_holder : NoHolder (holds m j) (m.rows 2) → ⊥
    some_holder n = true≢false (sym owned.1 ∙ n (owner_of m j) owned.0)

-- where the check refuses, so does what is asked after it
refused_by : (o : Outcome) (xs ys : List Check) (ns ms : List ℕ) (r : Refusal) → unless o (unless (first xs) (0 ∷ ns)) ≡ numbers r → unless o (unless (first (xs ++ ys)) ms) ≡ numbers r
refused_by (Err q) xs ys ns ms r e = e
refused_by (Ok u) xs ys ns ms r e = go (first xs) refl e
  where
    go : (o : Outcome) → first xs ≡ o → unless o (0 ∷ ns) ≡ numbers r → unless (first (xs ++ ys)) ms ≡ numbers r
    go (Err q) w z = rw (first_stops xs ys w) z
    go (Ok v) w z = let h : 0 ≡ get_or (numbers r) 0 0 = ap (λ xs. get_or xs 0 0) z in absurd (omega (arith, number-positive r))

pub check_refused : (p batch house : List ℕ) (j : ℕ) (r : Refusal) → enclave_answer p batch house ≡ numbers r → owner_answer p batch house j ≡ numbers r
unfolding enclave_answer image_answer owner_answer
check_refused p batch house j r e =
    let m = pack_image p batch house in
    refused_by (first (packing_checks Enclave p batch house)) (enclave_checks m) (there m j) (links m ∷ []) (0 ∷ holders (holds m j) (m.rows 2)) r e

pub accepted_owner : (p batch house : List ℕ) (j c : ℕ) → Accepted p batch house c → owner_answer p batch house j ≡ image_owner (pack_image p batch house) j
unfolding owner_answer
accepted_owner p batch house j c h = rw (accepted_packed p batch house c h) refl

pub owner_is_named : OwnerIsNamed
unfolding first
owner_is_named p batch house c j h l =
    let m = pack_image p batch house in
    let e : first (there m j) ≡ passed = rw (lt-ltb j (m.rows 6) l) refl in
    accepted_owner p batch house j c h ∙ owner_found m j (accepted_checks p batch house c h) e
