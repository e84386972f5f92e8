-- Modes lie in the spans of the reactors that they name, and modes and scopes pair off. Assumes nothing.
use Prim.Native.Nat.{ℕ, suc, ◌+◌, ◌<◌, ◌≤◌}
use mathlib.Core.Bool.{true}
use mathlib.Core.Path.{◌≡◌, sym, ap, ◌∙◌}
use native.Mathlib.Omega.{arith}
use lib.Dec.{leb}
use borrow.Author.Tests.{ltb-true, leb-true}
use Rattle.identity.proofs.Tests.{both}
use Rattle.range.specs.Range.{saturating_end, contains}
use Rattle.schema.specs.Indexes.{ModeIndex}
use Rattle.checks.specs.Image.{Image}
use Rattle.checks.proofs.Fits.{before_next}
use Rattle.enclave.proofs.Accepted.{EachPasses}
use Rattle.accepted.specs.Modes.{owner_of, holds, OneOwner, SpansAddUp, Pairing}
use Rattle.accepted.proofs.Rows.{ReactorHolds, reactor_holds, ModeHolds, mode_holds, ScopeHolds, scope_holds}
use Rattle.accepted.proofs.Spans.{one_span, add_up}

module _ (m : Image) (h : EachPasses m) where
  abbrev start_at : ℕ → ℕ
  start_at r = (m.reactors r).modes.0.start

  abbrev len_at : ℕ → ℕ
  len_at r = (m.reactors r).modes.0.len

  reactor : (r : ℕ) → r < m.rows 2 → ReactorHolds m r
  reactor r l = reactor_holds m r (h.reactor r l)

  mode : (j : ℕ) → j < m.rows 6 → ModeHolds m j
  mode j l = mode_holds m j (h.mode j l)

  scope : (s : ℕ) → s < m.rows 7 → ScopeHolds m s
  scope s l = scope_holds m s (h.scope s l)

  after : (r : ℕ) → suc r < m.rows 2 → start_at r + len_at r ≤ start_at (suc r)
  after r l =
      let e = (reactor r (omega arith)).modes.end in
      rw (before_next (λ i. saturating_end (start_at i) (len_at i)) r, e) at (reactor (suc r) l).modes.after

  inside : (r j : ℕ) → r < m.rows 2 → holds m j r ≡ true → (start_at r ≤ j) × (j < start_at r + len_at r)
  unfolding contains
  inside r j l e =
      let b = both (leb (start_at r) j) _ e in
      (leb-true (start_at r) j b.0, rw (reactor r l).modes.end at (ltb-true j _ b.1))

  -- mode j lies in its owner's span
  owned : (j : ℕ) → j < m.rows 6 → (start_at (owner_of m j) ≤ j) × (j < start_at (owner_of m j) + len_at (owner_of m j))
  owned j l = inside (owner_of m j) j (mode j l).reactor (mode j l).held

  pub one_owner : OneOwner m
  one_owner j l =
      let x = mode j l in
      let a = owned j l in (
        x.reactor,
        x.held,
        λ r u e. let b = inside r j u e in one_span start_at len_at (m.rows 2) after r (owner_of m j) j u x.reactor b.0 b.1 a.0 a.1,
      )

  pub spans_add_up : SpansAddUp m
  spans_add_up =
      add_up start_at len_at (m.rows 2) after (m.rows 6) (λ r l. (reactor r l).modes.inside)
      (λ j l. let a = owned j l in (owner_of m j, (mode j l).reactor, a.0, a.1))

  pub pairing : Pairing m
  pairing =
      record {
        scope_of = λ j l. let x = mode j l in (x.scope, x.scope_mode);
        mode_of = λ s l j e. let x = (scope s l).mode j e in (x.0, x.1);
        one_mode = λ j k l u e.
            let x = (mode j l).scope_mode in
            let y = (mode k u).scope_mode in
            let z : ◌≡◌ {A = ModeIndex} (record { 0 = j }) (record { 0 = k }) = cc in
            ap (λ (i : ModeIndex). i.0) z;
        one_scope = λ s t j l u e f. sym ((scope s l).mode _ e).1 ∙ ((scope t u).mode _ f).1;
      }
