-- Two stations' packs that differ only in what is not looked at have one answer. Assumes nothing.
use Prim.Native.Nat.{ℕ, ◌+◌, ◌<◌}
use mathlib.Core.Bool.{true, true≢false}
use mathlib.Core.Path.{◌≡◌, refl, ◌∙◌, sym}
use mathlib.Core.List.{List, [], ◌∷◌}
use native.Mathlib.Omega.{arith}
use lib.Dec.{eqb}
use borrow.Author.Tests.{eqb-true}
use Rattle.identity.proofs.Tests.{cases}
use Rattle.schema.specs.Bytes.{byte_of}
use Rattle.schema.specs.Tables.{tables, start_of, rows_of}
use Rattle.schema.specs.Rows.{index_at, level_at, startup_at, lifecycle_at}
use Rattle.packing.specs.declared.PackKind.TheVariants.{Enclave}
use Rattle.packing.specs.Starts.{table_starts}
use Rattle.packing.proofs.Packed.{first_is}
use Rattle.packing.proofs.SameTables.{same_starts}
use Rattle.packing.proofs.TableRows.{RowsRise, rows_of_tables, rows_rise}
use Rattle.checks.specs.Image.{image}
use Rattle.enclave.specs.Answer.{pack_image}
use Rattle.enclave.proofs.Whole.{pack_answer}
use Rattle.unlooked.specs.Images.{one_of, index_tables, level_tables, startup_tables, lifecycle_tables, SameRows}
use Rattle.unlooked.specs.Packs.{DifferUnlooked, EnclaveAnswerSame}
use Rattle.unlooked.proofs.Images.{rows_decide}
use Rattle.unlooked.proofs.Bytes.{same_tables}
use Rattle.unlooked.proofs.RecordRows.{reactor_same, action_same, port_same, reaction_same, mode_same, scope_same, index_same, level_same, startup_same, lifecycle_same, route_part_same, binding_same, deadline_same, id_same, state_same, action_slots_same}

-- what holds of each of some tables holds of one of them
abbrev EachOf : (ℕ → Type 0) → List ℕ → Type 0
EachOf P [] = Unit {0}
EachOf P (t ∷ ts) = P t × EachOf P ts

that_one : (P : ℕ → Type 0) (ts : List ℕ) (t : ℕ) → one_of ts t ≡ true → EachOf P ts → P t
that_one P [] t o h = absurd (true≢false (sym o))
that_one P (u ∷ us) t o h =
    let i = that_one P us t in
    cases (eqb t u)
    (λ e. let x = eqb-true t u e in rw x h.0)
    (λ e. i (rw e at o) h.1)

-- packs that begin with the enclave's record, and whose rows rise
module _ (p q : List ℕ) (d : DifferUnlooked Enclave p q) (batch house : List ℕ) (first : byte_of p 0 0 ≡ 1) (up : RowsRise p) where
  abbrev s : List ℕ
  s = table_starts p 1

  row_of : (t i : ℕ) → t < tables → i < rows_of s t → byte_of p (start_of s t + i) 0 ≡ t
  row_of t i k l = ((rows_of_tables p up t (start_of s t + i) k).0 (omega arith, omega arith)).2

  -- the entries of a list table
  module _ {A : Type 0} (at : List ℕ → ℕ → A) where
    abbrev Same : ℕ → Type 0
    Same t = (t < tables) × ((n : ℕ) → byte_of p n 0 ≡ t → at q n ≡ at p n)

    listed : (ts : List ℕ) → EachOf Same ts → (t i : ℕ) → one_of ts t ≡ true → i < rows_of s t → at q (start_of s t + i) ≡ at p (start_of s t + i)
    listed ts h t i o l = let x = that_one Same ts t o h in x.1 (start_of s t + i) (row_of t i x.0 l)

  indexes : EachOf (Same index_at) index_tables
  indexes = (
    (omega arith, λ n. index_same p q d n 9 (λ f b k. refl)),
    (
      (omega arith, λ n. index_same p q d n 10 (λ f b k. refl)),
      (
        (omega arith, λ n. index_same p q d n 11 (λ f b k. refl)),
        (
          (omega arith, λ n. index_same p q d n 12 (λ f b k. refl)),
          (
            (omega arith, λ n. index_same p q d n 13 (λ f b k. refl)),
            (
              (omega arith, λ n. index_same p q d n 14 (λ f b k. refl)),
              ((omega arith, λ n. index_same p q d n 22 (λ f b k. refl)), tt),
            ),
          ),
        ),
      ),
    ),
  )

  levels : EachOf (Same level_at) level_tables
  levels = ((omega arith, λ n. level_same p q d n 8 (λ f b k. refl)), ((omega arith, λ n. level_same p q d n 16 (λ f b k. refl)), tt))

  startups : EachOf (Same (λ r n. (startup_at r n).action.0)) startup_tables
  startups = (
    (omega arith, λ n. startup_same p q d n 15 (λ f b k. refl)),
    (
      (omega arith, λ n. startup_same p q d n 19 (λ f b k. refl)),
      ((omega arith, λ n. startup_same p q d n 20 (λ f b k. refl)), tt),
    ),
  )

  lifecycles : EachOf (Same lifecycle_at) lifecycle_tables
  lifecycles = (
    (omega arith, λ n. lifecycle_same p q d n 17 (λ f b k. refl)),
    (
      (omega arith, λ n. lifecycle_same p q d n 18 (λ f b k. refl)),
      ((omega arith, λ n. lifecycle_same p q d n 21 (λ f b k. refl)), tt),
    ),
  )

  rows_same : SameRows (pack_image p batch house) (image q batch house s 0)
  rows_same =
      record {
        rows = refl;
        reactors = λ i l. reactor_same p q d _ (row_of 2 i (omega arith) l);
        actions = λ i l. action_same p q d _ (row_of 3 i (omega arith) l);
        ports = λ i l. port_same p q d _ (row_of 4 i (omega arith) l);
        reactions = λ i l. reaction_same p q d _ (row_of 5 i (omega arith) l);
        modes = λ i l. mode_same p q d _ (row_of 6 i (omega arith) l);
        scopes = λ i l. scope_same p q d _ (row_of 7 i (omega arith) l);
        indexes = listed index_at index_tables indexes;
        levels = listed level_at level_tables levels;
        startups = listed (λ r n. (startup_at r n).action.0) startup_tables startups;
        lifecycles = listed lifecycle_at lifecycle_tables lifecycles;
        routes = λ i l. route_part_same p q d _ (row_of 23 i (omega arith) l);
        bindings = λ i l. binding_same p q d _ (row_of 24 i (omega arith) l);
        deadlines = λ i l. deadline_same p q d _ (row_of 25 i (omega arith) l);
        enclave_id = id_same p q d 0 first;
        text = refl;
        state_slots = state_same p q d 0 first;
        action_slots = action_slots_same p q d 0 first;
      }

  pub images_same : SameRows (pack_image p batch house) (pack_image q batch house)
  images_same = rw (same_starts p q (same_tables Enclave p q d) 1) rows_same

pub enclave_answer_same : EnclaveAnswerSame
enclave_answer_same p q batch house h k d =
    pack_answer q batch house k
    ∙ rows_decide _ _ (images_same p q d batch house (first_is Enclave p batch house h) (rows_rise p batch house h))
    ∙ sym (pack_answer p batch house h)
