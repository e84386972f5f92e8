-- The six running ends of the rows of scopes: what they are before a row, the checks of a row's ranges against them, and how a row moves
-- them on. Assumes nothing.
use Rattle.std.specs.Prelude.{ℕ, ◌-◌, cond, List, ◌++◌, eqb, Ok, Err}
use Rattle.answers.specs.declared.field.Field.TheVariants as field
use Rattle.answers.specs.Checks.{Check, Outcome}
use Rattle.schema.specs.declared.rows.ScopeImage.{ScopeImage}
use Rattle.checks.specs.Refs.{range_checks, range_end}
use Rattle.scope_checks.specs.declared.ends.ScopeEnds.{ScopeEnds}

-- where the six ranges of a row end
abbrev pub ends_of : ScopeImage → ScopeEnds
ends_of row =
    record {
      descendants = range_end row.descendants;
      logical_actions = range_end row.logical_actions;
      timer_startups = range_end row.timer_startups;
      reset_reactions = range_end row.reset_reactions;
      startup_reactions = range_end row.startup_reactions;
      shutdown_reactions = range_end row.shutdown_reactions;
    }

abbrev pub no_ends : ScopeEnds
no_ends =
    record {
      descendants = 0;
      logical_actions = 0;
      timer_startups = 0;
      reset_reactions = 0;
      startup_reactions = 0;
      shutdown_reactions = 0;
    }

-- the ends of row i - 1; 0 before the first row
unfoldable pub ends_before : (ℕ → ScopeImage) → ℕ → ScopeEnds
ends_before scopes i = cond (eqb i 0) no_ends (ends_of (scopes (i - 1)))

-- the six ranges of row i, each against its running end: those of scopes and actions, then those of reactions
unfoldable pub member_range_checks : (ℕ → ℕ) → ℕ → ScopeImage → ScopeEnds → List Check
member_range_checks rows i row ends =
    range_checks rows 7 i field.Descendants 13 row.descendants ends.descendants
    ++ (range_checks rows 7 i field.LogicalActions 14 row.logical_actions ends.logical_actions
    ++ range_checks rows 7 i field.TimerStartups 15 row.timer_startups ends.timer_startups)

unfoldable pub reaction_range_checks : (ℕ → ℕ) → ℕ → ScopeImage → ScopeEnds → List Check
reaction_range_checks rows i row ends =
    range_checks rows 7 i field.ResetReactions 16 row.reset_reactions ends.reset_reactions
    ++ (range_checks rows 7 i field.StartupReactions 17 row.startup_reactions ends.startup_reactions
    ++ range_checks rows 7 i field.ShutdownReactions 18 row.shutdown_reactions ends.shutdown_reactions)

abbrev pub scope_range_checks : (ℕ → ℕ) → ℕ → ScopeImage → ScopeEnds → List Check
scope_range_checks rows i row ends = member_range_checks rows i row ends ++ reaction_range_checks rows i row ends

-- the ends after a row with that answer: the row's own where it passed, else as they were
abbrev pub ends_after : Outcome → ScopeImage → ScopeEnds → ScopeEnds
ends_after (Ok u) row old = ends_of row
ends_after (Err r) row old = old
