-- The row of a record of table t, as far as it is looked at, is the same in two packs that differ only in what is not. Assumes nothing.
use Prim.Native.Nat.{ℕ, zero, suc, ◌/◌, ◌%◌}
use mathlib.Core.Bool.{Bool, true, false, cond}
use mathlib.Core.Path.{◌≡◌, refl, ◌∙◌}
use mathlib.Core.List.{List}
use native.Mathlib.Omega.{arith}
use lib.Dec.{ltb, eqb}
use borrow.Author.Tests.{ltb-false, le-ltb, ne_eqb}
use Rattle.std.specs.Bool.{then_some}
use Rattle.identity.specs.declared.IdentityPlace.{IdentityPlace}
use Rattle.schema.specs.Layout as layout
use Rattle.schema.specs.Layout.{Layout}
use Rattle.schema.specs.Indexes.{ModeIndex}
use Rattle.schema.specs.declared.index.Transition.{Transition}
use Rattle.schema.specs.declared.index.ActionTiming.TheVariants.{Timer, Shutdown}
use Rattle.schema.specs.Bytes.{byte_of, bit_of}
use Rattle.schema.specs.Rows.{field, row, transition_of, timing_of, federate_of, enclave_of, reactor_of, action_of, port_of, reaction_of, mode_of, scope_of, index_of, level_of, startup_of, lifecycle_of, route_of, binding_of, deadline_of, federate_at, enclave_at, reactor_at, action_at, port_at, reaction_at, mode_at, scope_at, index_at, level_at, startup_at, lifecycle_at, route_at, binding_at, deadline_at}
use Rattle.packing.specs.declared.PackKind.{PackKind}
use Rattle.packing.specs.declared.PackKind.TheVariants.{Enclave, Federate}
use Rattle.checks.specs.Image.{is_standard, action_part, effect_target, reaction_part, route_part, deadline_part}
use Rattle.unlooked.specs.Packs.{record_of, zero_bytes, unlooked, DifferUnlooked}
use Rattle.unlooked.proofs.Bytes.{kept, seen, same_tables, byte_same, made_same, number_zero}

-- what two bytes have in common of which the same is left
low_bit : (a b : ℕ) → a % 2 ≡ b % 2 → bit_of a 0 ≡ bit_of b 0
low_bit a b h = let x : a / 1 % 2 ≡ b / 1 % 2 = omega arith in rw x refl

next_bit : (a b : ℕ) → a / 2 ≡ b / 2 → bit_of a 1 ≡ bit_of b 1
next_bit a b h = rw h refl

standard_is : (k : ℕ) (present : Bool) (x : ℕ) → is_standard (timing_of k present x) ≡ ltb k 2
standard_is zero present x = refl
standard_is (suc zero) present x = refl
standard_is (suc (suc k)) present x =
    rw (ne_eqb (suc (suc k)) 0 (λ e. omega arith), ne_eqb (suc (suc k)) 1 (λ e. omega arith), le-ltb (suc (suc k)) 2 (omega arith)) (go (eqb (suc (suc k)) 2))
  where
    go : (b : Bool) → is_standard (cond b (Timer (then_some present x)) Shutdown) ≡ false
    go true = refl
    go false = refl

one_kind_same : (a b : ℕ) → cond (ltb a 2) 0 a ≡ cond (ltb b 2) 0 b → ltb a 2 ≡ ltb b 2
one_kind_same a b = go (ltb a 2) (ltb b 2) refl refl
  where
    go : (x y : Bool) → ltb a 2 ≡ x → ltb b 2 ≡ y → cond x 0 a ≡ cond y 0 b → x ≡ y
    go true true e f h = refl
    go true false e f h = let u = ltb-false b 2 f in absurd (omega arith)
    go false true e f h = let u = ltb-false a 2 e in absurd (omega arith)
    go false false e f h = refl

target_is :
    (present : Bool) (x y : Transition) (m : ModeIndex)
    → effect_target (then_some present (record { transition = x; target = m })) ≡ effect_target (then_some present (record { transition = y; target = m }))
target_is true x y m = refl
target_is false x y m = refl

bit_same : (a b : Bool) → ◌≡◌ {A = ℕ} (cond a 1 0) (cond b 1 0) → a ≡ b
bit_same true true h = refl
bit_same true false h = absurd (omega arith)
bit_same false true h = absurd (omega arith)
bit_same false false h = refl

-- actions, and reactions, with the same fields and with what is left of bytes 1 and 2 the same
action_head :
    (f : ℕ → ℕ) (a b j k : ℕ) → a % 2 ≡ b % 2 → cond (ltb j 2) 0 j ≡ cond (ltb k 2) 0 k
    → action_part (action_of f a j) ≡ action_part (action_of f b k)
action_head f a b j k g h = rw (standard_is j (bit_of a 1) (f 3), standard_is k (bit_of b 1) (f 3), one_kind_same j k h, low_bit a b g) refl

reaction_head : (f : ℕ → ℕ) (a b j k : ℕ) → a / 2 ≡ b / 2 → reaction_part (reaction_of f a j) ≡ reaction_part (reaction_of f b k)
reaction_head f a b j k h = rw (next_bit a b h, target_is (bit_of b 1) (transition_of j) (transition_of k) (record { 0 = f 12 })) refl

-- what is made of a row's fields and of its bytes 1 and 2: no more of the fields than of those of which nothing is hidden
abbrev pub Seen : {A : Type 0} → PackKind → ((ℕ → ℕ) → ℕ → ℕ → A) → ℕ → Layout → Type 0
Seen kind of t l = (f : ℕ → ℕ) (b k : ℕ) → of (seen (unlooked kind) t l f) b k ≡ of f b k

-- record n of table t, whose layout is l
module _ (kind : PackKind) (p q : List ℕ) (d : DifferUnlooked kind p q) (n : ℕ) {A : Type 0} (of : (ℕ → ℕ) → ℕ → ℕ → A) (t : ℕ) (l : Layout) where
  -- bytes 1 and 2 come to the same
  abbrev SameHead : Type 0
  SameHead = (f : ℕ → ℕ) → of f (byte_of q n 1) (byte_of q n 2) ≡ of f (byte_of p n 1) (byte_of p n 2)

  part_same : SameHead → Seen kind of t l → byte_of p n 0 ≡ t → row of l q n ≡ row of l p n
  part_same head only e =
      head (field q n l)
      ∙ made_same kind p q d n t e (λ f. of f (byte_of p n 1) (byte_of p n 2)) l (λ f. only f (byte_of p n 1) (byte_of p n 2))

  -- they are looked at whole
  whole_same : kept (unlooked kind) t 1 ≡ true → kept (unlooked kind) t 2 ≡ true → Seen kind of t l → byte_of p n 0 ≡ t → row of l q n ≡ row of l p n
  whole_same g h only e =
      let a = byte_same kind p q d n t e 1 g (omega arith) in
      let b = byte_same kind p q d n t e 2 h (omega arith) in
      part_same (λ f. rw (a, b) refl) only e

module _ (p q : List ℕ) (d : DifferUnlooked Enclave p q) (n : ℕ) where
  abbrev Table : ℕ → Type 0
  Table t = byte_of p n 0 ≡ t

  -- rows that are looked at whole
  pub federate_same : Table 0 → federate_at q n ≡ federate_at p n
  unfolding federate_at
  federate_same = whole_same Enclave p q d n federate_of 0 layout.federate refl refl (λ f b k. refl)

  pub reactor_same : Table 2 → reactor_at q n ≡ reactor_at p n
  unfolding reactor_at
  reactor_same = whole_same Enclave p q d n reactor_of 2 layout.reactors refl refl (λ f b k. refl)

  pub port_same : Table 4 → port_at q n ≡ port_at p n
  unfolding port_at
  port_same = whole_same Enclave p q d n port_of 4 layout.ports refl refl (λ f b k. refl)

  pub mode_same : Table 6 → mode_at q n ≡ mode_at p n
  unfolding mode_at
  mode_same = whole_same Enclave p q d n mode_of 6 layout.modes refl refl (λ f b k. refl)

  pub scope_same : Table 7 → scope_at q n ≡ scope_at p n
  unfolding scope_at
  scope_same = whole_same Enclave p q d n scope_of 7 layout.scopes refl refl (λ f b k. refl)

  pub binding_same : Table 24 → binding_at q n ≡ binding_at p n
  unfolding binding_at
  binding_same = whole_same Enclave p q d n binding_of 24 layout.bindings refl refl (λ f b k. refl)

  -- rows that are looked at in part
  in_q : (t : ℕ) → Table t → byte_of q n 0 ≡ t
  in_q t e = (same_tables Enclave p q d).tables n ∙ e

  pub action_same : Table 3 → action_part (action_at q n) ≡ action_part (action_at p n)
  unfolding action_at
  action_same e =
      let bits : byte_of q n 1 % 2 ≡ byte_of p n 1 % 2 = rw (in_q 3 e, e) at (d.1 n 1 (omega arith)) in
      let as_one : ℕ → ℕ = λ k. cond (ltb k 2) 0 k in
      let kinds : as_one (byte_of q n 2) ≡ as_one (byte_of p n 2) = rw (in_q 3 e, e) at (d.1 n 2 (omega arith)) in
      part_same Enclave p q d n (λ f b k. action_part (action_of f b k)) 3 layout.actions
      (λ f. action_head f (byte_of q n 1) (byte_of p n 1) (byte_of q n 2) (byte_of p n 2) bits kinds)
      (λ f b k. rw (standard_is k (bit_of b 1) 0, standard_is k (bit_of b 1) (f 3)) refl)
      e

  pub reaction_same : Table 5 → reaction_part (reaction_at q n) ≡ reaction_part (reaction_at p n)
  unfolding reaction_at
  reaction_same e =
      let bits : byte_of q n 1 / 2 ≡ byte_of p n 1 / 2 = rw (in_q 5 e, e) at (d.1 n 1 (omega arith)) in
      part_same Enclave p q d n (λ f b k. reaction_part (reaction_of f b k)) 5 layout.reactions
      (λ f. reaction_head f (byte_of q n 1) (byte_of p n 1) (byte_of q n 2) (byte_of p n 2) bits)
      (λ f b k. refl)
      e

  pub route_part_same : Table 23 → route_part (route_at q n) ≡ route_part (route_at p n)
  unfolding route_at
  route_part_same e =
      let house = byte_same Enclave p q d n 23 e 1 refl (omega arith) in
      let bits : byte_of q n 2 % 2 ≡ byte_of p n 2 % 2 = rw (in_q 23 e, e) at (d.1 n 2 (omega arith)) in
      part_same Enclave p q d n (λ f b k. route_part (route_of f b k)) 23 layout.routes
      (λ f. rw (house, low_bit (byte_of q n 2) (byte_of p n 2) bits) refl)
      (λ f b k. refl)
      e

  pub deadline_same : Table 25 → deadline_part (deadline_at q n) ≡ deadline_part (deadline_at p n)
  unfolding deadline_at
  deadline_same e =
      let reaction = made_same Enclave p q d n 25 e (λ f. f 0) layout.deadlines (λ f. refl) in
      let zero_q = number_zero q n 8 8 (omega arith) in
      let zero_p = number_zero p n 8 8 (omega arith) in
      let is_zero : List ℕ → Bool = λ r. zero_bytes (record_of r n) 8 8 in
      let zero : is_zero q ≡ is_zero p = bit_same (is_zero q) (is_zero p) (rw (in_q 25 e, e) at (d.1 n 8 (omega arith))) in
      rw (reaction, ← zero_q, ← zero_p, zero) refl

  -- an enclave's identity, also as it is read from the federate's record; the slot bounds
  abbrev id_of : (ℕ → ℕ) → ℕ → ℕ → IdentityPlace
  id_of f b k = (enclave_of f b k).enclave_id

  pub id_same : Table 1 → (enclave_at q n).enclave_id ≡ (enclave_at p n).enclave_id
  unfolding enclave_at
  id_same = whole_same Enclave p q d n id_of 1 layout.enclave refl refl (λ f b k. refl)

  pub no_id_same : Table 0 → (enclave_at q n).enclave_id ≡ (enclave_at p n).enclave_id
  unfolding enclave_at
  no_id_same = whole_same Enclave p q d n id_of 0 layout.enclave refl refl (λ f b k. refl)

  pub state_same : Table 1 → (enclave_at q n).storage_bounds.state_slots ≡ (enclave_at p n).storage_bounds.state_slots
  unfolding enclave_at
  state_same = whole_same Enclave p q d n (λ f b k. (enclave_of f b k).storage_bounds.state_slots) 1 layout.enclave refl refl (λ f b k. refl)

  pub action_slots_same : Table 1 → (enclave_at q n).storage_bounds.action_slots ≡ (enclave_at p n).storage_bounds.action_slots
  unfolding enclave_at
  action_slots_same = whole_same Enclave p q d n (λ f b k. (enclave_of f b k).storage_bounds.action_slots) 1 layout.enclave refl refl (λ f b k. refl)

  -- entries of a list table t
  pub index_same : (t : ℕ) → Seen Enclave index_of t layout.indexes → Table t → index_at q n ≡ index_at p n
  unfolding index_at
  index_same t = part_same Enclave p q d n index_of t layout.indexes (λ f. refl)

  pub level_same : (t : ℕ) → Seen Enclave level_of t layout.levels → Table t → level_at q n ≡ level_at p n
  unfolding level_at
  level_same t = part_same Enclave p q d n level_of t layout.levels (λ f. refl)

  pub lifecycle_same : (t : ℕ) → Seen Enclave lifecycle_of t layout.lifecycles → Table t → lifecycle_at q n ≡ lifecycle_at p n
  unfolding lifecycle_at
  lifecycle_same t = part_same Enclave p q d n lifecycle_of t layout.lifecycles (λ f. refl)

  abbrev pub started : (ℕ → ℕ) → ℕ → ℕ → ℕ
  started f b k = (startup_of f b k).action.0

  pub startup_same : (t : ℕ) → Seen Enclave started t layout.startups → Table t → (startup_at q n).action.0 ≡ (startup_at p n).action.0
  unfolding startup_at
  startup_same t = part_same Enclave p q d n started t layout.startups (λ f. refl)

-- a line's routes are looked at whole
pub route_same : (p q : List ℕ) → DifferUnlooked Federate p q → (n : ℕ) → byte_of p n 0 ≡ 23 → route_at q n ≡ route_at p n
unfolding route_at
route_same p q d n = whole_same Federate p q d n route_of 23 layout.routes refl refl (λ f b k. refl)
