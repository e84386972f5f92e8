-- The running ends before a row. Assumes nothing.
use Rattle.std.proofs.Common.{ℕ, ◌+◌, ◌-◌, ◌≡◌, refl, arith}
use borrow.Author.Tests.{ne_eqb}
use Rattle.schema.specs.declared.rows.ScopeImage.{ScopeImage}
use Rattle.scope_checks.specs.Ends.{ends_of, no_ends, ends_before}

pub ends_first : (scopes : ℕ → ScopeImage) → ends_before scopes 0 ≡ no_ends
unfolding ends_before
ends_first scopes = refl

pub ends_next : (scopes : ℕ → ScopeImage) (i : ℕ) → ends_before scopes (i + 1) ≡ ends_of (scopes i)
unfolding ends_before
ends_next scopes i =
    let k : i + 1 - 1 ≡ i = omega arith in rw (ne_eqb (i + 1) 0 (λ z. omega arith), k) refl

pub ruleset ends_laws = (ends_first, ends_next)
