-- Two packs that differ only in the six storage numbers have the same tables, and the same rows in them. Assumes nothing.
use Prim.Native.Nat.{ℕ, zero, suc, ◌+◌, ◌*◌, ◌-◌, ◌<◌, ◌≤◌}
use mathlib.Core.Bool.{Bool, true, false, cond}
use mathlib.Core.Path.{◌≡◌, refl}
use mathlib.Core.List.{List}
use native.Mathlib.Decide.{dec_le}
use native.Mathlib.Omega.{arith}
use lib.Dec.{ltb}
use borrow.Author.Tests.{ltb-true}
use Rattle.identity.specs.Text.{identity_text}
use Rattle.schema.specs.Layout as layout
use Rattle.schema.specs.Layout.{Layout}
use Rattle.schema.specs.Bytes.{byte_of}
use Rattle.schema.specs.Rows.{row, reactor_of, action_of, port_of, reaction_of, mode_of, scope_of, index_of, level_of, startup_of, lifecycle_of, route_of, binding_of, deadline_of, enclave_at, reactor_at, action_at, port_at, reaction_at, mode_at, scope_at, index_at, level_at, startup_at, lifecycle_at, route_at, binding_at, deadline_at}
use Rattle.packing.specs.Shape.{used}
use Rattle.schema.specs.Tables.{tables, start_of, rows_of}
use Rattle.packing.specs.Starts.{table_starts}
use Rattle.packing.proofs.TableStarts.{starts_from}
use Rattle.packing.proofs.SameTables.{SameTables}
use Rattle.checks.specs.Image.{Image, image, action_part, reaction_part, route_part, deadline_part}
use Rattle.larger_bounds.specs.Images.{with_bounds}
use Rattle.larger_bounds.specs.Packs.{DifferInStorage, state_bound, action_bound}
use Rattle.larger_bounds.proofs.RowBytes.{number_same, row_same}

-- a table of an image: past the last one, table 2 stands for it
abbrev pub table_in : ℕ → ℕ
table_in t = cond (ltb t tables) t 2

-- the image whose lists are those of its tables; its checks look at no others
abbrev pub in_tables : Image → Image
in_tables m =
    record {
      rows = m.rows;
      reactors = m.reactors;
      actions = m.actions;
      ports = m.ports;
      reactions = m.reactions;
      modes = m.modes;
      scopes = m.scopes;
      indexes = λ t. m.indexes (table_in t);
      levels = λ t. m.levels (table_in t);
      startups = λ t. m.startups (table_in t);
      lifecycles = λ t. m.lifecycles (table_in t);
      routes = m.routes;
      bindings = m.bindings;
      deadlines = m.deadlines;
      enclave_id = m.enclave_id;
      text = m.text;
      state_slots = m.state_slots;
      action_slots = m.action_slots;
    }

module _ (p q : List ℕ) (d : DifferInStorage p q) where
  -- a record's table number
  pub table_same : (n : ℕ) → byte_of q n 0 ≡ byte_of p n 0
  table_same n = d.1 n 0 (omega arith) (λ s. let l = s.1 in omega arith)

  pub same_tables : SameTables p q
  same_tables = record { lengths = d.0; tables = table_same }

  -- the bytes of a record that is no enclave's, and the first four after it
  pub record_same : (n : ℕ) → (byte_of p n 0 ≡ 1 → ⊥) → (j : ℕ) → j < 68 → byte_of q n j ≡ byte_of p n j
  record_same n o j l =
      elim (dec_le 64 j) [
        | yes g ↦ (let e : n * 64 + j ≡ suc n * 64 + (j - 64) = omega arith in rw e (d.1 (suc n) (j - 64) (omega arith) (λ s. let b = s.1 in omega arith)))
        | no g ↦ d.1 n j (omega arith) (λ s. o s.0)
      ]

  -- the enclave's identity
  head-same : (n j : ℕ) → j < 12 → byte_of q n j ≡ byte_of p n j
  head-same n j l = d.1 n j (omega arith) (λ s. let b = s.1 in omega arith)

  pub identity-same : (n : ℕ) → (enclave_at q n).enclave_id ≡ (enclave_at p n).enclave_id
  unfolding enclave_at
  identity-same n =
      rw (
        head-same n 1 (omega arith),
        number_same p q n n 4 4 (λ j l. head-same n j (omega arith)),
        number_same p q n n 4 8 (λ j l. head-same n j (omega arith)),
      )

  -- a pack whose only enclave is record 0's
  module _ (batch house : List ℕ) (single : (n : ℕ) → byte_of p (suc n) 0 ≡ 1 → ⊥) where
    not-enclave : (n : ℕ) → 1 ≤ n → byte_of p n 0 ≡ 1 → ⊥
    not-enclave zero l e = absurd (omega arith)
    not-enclave (suc n) l e = single n e

    rows_same : {A : Type 0} (of : (ℕ → ℕ) → ℕ → ℕ → A) (l : Layout) → used l ≤ 64 → (n : ℕ) → 1 ≤ n → row of l q n ≡ row of l p n
    rows_same of l u n g = row_same p q n n of l u (record_same n (not-enclave n g))

    table-start : (t i : ℕ) → 1 ≤ start_of (table_starts p 1) (table_in t) + i
    table-start t i = go (ltb t tables) refl
      where
        go : (b : Bool) → ltb t tables ≡ b → 1 ≤ start_of (table_starts p 1) (cond b t 2) + i
        go true e = let h = ltb-true t tables e in let f = starts_from p 1 t (omega arith) in omega arith
        go false e = let f = starts_from p 1 2 (omega arith) in omega arith

    pub image-same :
        in_tables (image q batch house (table_starts p 1) 0) ≡ with_bounds (in_tables (image p batch house (table_starts p 1) 0)) (state_bound q 0) (action_bound q 0)
    unfolding reactor_at action_at port_at reaction_at mode_at scope_at index_at level_at startup_at lifecycle_at route_at binding_at deadline_at
    image-same e =
        record {
          rows = rows_of (table_starts p 1);
          reactors = λ i. rows_same reactor_of layout.reactors (omega arith) _ (table-start 2 i) e;
          actions = λ i. action_part (rows_same action_of layout.actions (omega arith) _ (table-start 3 i) e);
          ports = λ i. rows_same port_of layout.ports (omega arith) _ (table-start 4 i) e;
          reactions = λ i. reaction_part (rows_same reaction_of layout.reactions (omega arith) _ (table-start 5 i) e);
          modes = λ i. rows_same mode_of layout.modes (omega arith) _ (table-start 6 i) e;
          scopes = λ i. rows_same scope_of layout.scopes (omega arith) _ (table-start 7 i) e;
          indexes = λ t i. rows_same index_of layout.indexes (omega arith) _ (table-start t i) e;
          levels = λ t i. rows_same level_of layout.levels (omega arith) _ (table-start t i) e;
          startups = λ t i. (rows_same startup_of layout.startups (omega arith) _ (table-start t i) e).action.0;
          lifecycles = λ t i. rows_same lifecycle_of layout.lifecycles (omega arith) _ (table-start t i) e;
          routes = λ i. route_part (rows_same route_of layout.routes (omega arith) _ (table-start 23 i) e);
          bindings = λ i. rows_same binding_of layout.bindings (omega arith) _ (table-start 24 i) e;
          deadlines = λ i. deadline_part (rows_same deadline_of layout.deadlines (omega arith) _ (table-start 25 i) e);
          enclave_id = identity-same 0 e;
          text = λ id. identity_text batch house id;
          state_slots = state_bound q 0;
          action_slots = action_bound q 0;
        }
