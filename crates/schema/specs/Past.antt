-- A record past the pack holds what one of zeros holds, by each reader. Assumes nothing.
use Prim.Native.Nat.{ℕ, zero, suc, ◌+◌, ◌*◌, ◌≤◌}
use mathlib.Core.Path.{◌≡◌, refl, sym}
use mathlib.Core.List.{List}
use native.Mathlib.Omega.{arith}
use lib.ListN.{length, get_or, get_or-eq_default}
use Rattle.schema.specs.Number.{number}
use Rattle.schema.specs.Layout.{Layout, bytes, offset, field_at}
use Rattle.schema.specs.Layout as layout
use Rattle.schema.specs.RowLaws.{PastIs}
use Rattle.schema.specs.Rows.{row, empty, federate_of, federate_at, enclave_of, enclave_at, reactor_of, reactor_at, action_of, action_at, port_of, port_at, reaction_of, reaction_at, mode_of, mode_at, scope_of, scope_at, route_of, route_at, binding_of, binding_at, deadline_of, deadline_at, level_of, level_at, startup_of, startup_at, lifecycle_of, lifecycle_at, index_of, index_at}

pub byte_past : (p : List ℕ) (o : ℕ) → length p ≤ o → get_or p o 0 ≡ 0
byte_past p o h = get_or-eq_default p 0 h

pub number_past : (p : List ℕ) (k o : ℕ) → length p ≤ o → number k p o ≡ 0
unfolding number
number_past p zero o h = refl
number_past p (suc k) o h =
    let l : length p ≤ o + k = omega arith in
    rw (number_past p k o h, byte_past p (o + k) l)

pub row_past : {A : Type 0} (of : (ℕ → ℕ) → ℕ → ℕ → A) (l : Layout) → PastIs (row of l) (empty of)
row_past of l p n h w e =
    of
    (λ k. sym (number_past p (bytes (field_at l k)) (n * 64 + offset l k) (omega arith)) e)
    (sym (byte_past p (n * 64 + 1) (omega arith)) e)
    (sym (byte_past p (n * 64 + 2) (omega arith)) e)

pub federate_past : PastIs federate_at (empty federate_of)
unfolding federate_at
federate_past = row_past federate_of layout.federate

pub enclave_past : PastIs enclave_at (empty enclave_of)
unfolding enclave_at
enclave_past = row_past enclave_of layout.enclave

pub reactor_past : PastIs reactor_at (empty reactor_of)
unfolding reactor_at
reactor_past = row_past reactor_of layout.reactors

pub action_past : PastIs action_at (empty action_of)
unfolding action_at
action_past = row_past action_of layout.actions

pub port_past : PastIs port_at (empty port_of)
unfolding port_at
port_past = row_past port_of layout.ports

pub reaction_past : PastIs reaction_at (empty reaction_of)
unfolding reaction_at
reaction_past = row_past reaction_of layout.reactions

pub mode_past : PastIs mode_at (empty mode_of)
unfolding mode_at
mode_past = row_past mode_of layout.modes

pub scope_past : PastIs scope_at (empty scope_of)
unfolding scope_at
scope_past = row_past scope_of layout.scopes

pub route_past : PastIs route_at (empty route_of)
unfolding route_at
route_past = row_past route_of layout.routes

pub binding_past : PastIs binding_at (empty binding_of)
unfolding binding_at
binding_past = row_past binding_of layout.bindings

pub deadline_past : PastIs deadline_at (empty deadline_of)
unfolding deadline_at
deadline_past = row_past deadline_of layout.deadlines

pub index_past : PastIs index_at (empty index_of)
unfolding index_at
index_past = row_past index_of layout.indexes

pub level_past : PastIs level_at (empty level_of)
unfolding level_at
level_past = row_past level_of layout.levels

pub startup_past : PastIs startup_at (empty startup_of)
unfolding startup_at
startup_past = row_past startup_of layout.startups

pub lifecycle_past : PastIs lifecycle_at (empty lifecycle_of)
unfolding lifecycle_at
lifecycle_past = row_past lifecycle_of layout.lifecycles
