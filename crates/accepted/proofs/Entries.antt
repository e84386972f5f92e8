-- What the entries of list tables say whose checks pass. Assumes nothing.
use Prim.Native.Nat.{ℕ, zero, suc, ◌+◌, ◌-◌, ◌<◌, ◌≤◌}
use mathlib.Core.Bool.{false, true≢false}
use mathlib.Core.Path.{◌≡◌, refl}
use mathlib.Core.List.{List, ◌++◌}
use native.Mathlib.Decide.{dec_le}
use native.Mathlib.Omega.{arith}
use borrow.Author.Tests.{not-true, ne_eqb}
use Rattle.std.specs.Ordering.{nat_cmp, ordering_then}
use Rattle.std.specs.declared.cmp.Ordering.{Ordering}
use Rattle.std.specs.declared.cmp.Ordering.TheVariants.{Less, Equal, Greater}
use Rattle.std.proofs.lemmas.Cmp.{ranked}
use Rattle.range.specs.declared.SliceRange.{SliceRange}
use Rattle.answers.specs.Checks.{Check}
use Rattle.answers.proofs.Passed.{Passes, test, rest, below, equal, parts, item}
use Rattle.schema.specs.declared.entries.LevelReactionImage.{LevelReactionImage}
use Rattle.checks.specs.Image.{Image}
use Rattle.checks.specs.Identities.{is_equal, is_less}
use Rattle.checks.specs.Lists.{entry_index, level_order, level_ref_checks, level_order_checks, after_first, entry_checks, listed_checks, range_of_checks, no_more, action_checks, level_of, reaction_of, levels_checks, lifecycles_checks}
use Rattle.list_checks.specs.ListTables.{named_checks, index_checks, trigger_checks, action_trigger_checks, port_trigger_checks, enabled_mode_checks, enabled_modes_checks, scope_list_checks, listed_entry_checks, level_entry_checks}
use Rattle.enclave.proofs.Accepted.{EachPasses}
use Rattle.accepted.proofs.Rows.{reaction_holds}

-- an entry's reaction is there, and has its level
pub record LevelHolds (m : Image) (e : LevelReactionImage) : Type 0 where
  pub reaction : e.reaction.0 < m.rows 5
  pub level : (m.reactions e.reaction.0).level ≡ e.level

level_holds : (m : Image) (t i : ℕ) (e : LevelReactionImage) → Passes (level_ref_checks m.rows m.reactions t i e) → LevelHolds m e
level_holds m t i e h = record { reaction = below h; level = equal (rest h) }

-- entry e comes after the entry d: by level, then by reaction
pub record After (d e : LevelReactionImage) : Type 0 where
  pub level : d.level ≤ e.level
  pub reaction : d.level ≡ e.level → d.reaction.0 < e.reaction.0

-- entry k of a range: what it says, and that it comes after the one before
pub record EntryHolds (m : Image) (entry : ℕ → LevelReactionImage) (k : ℕ) : Type 0 where
  pub holds : LevelHolds m (entry k)
  pub after : 0 < k → After (entry (k - 1)) (entry k)

-- what is neither equal to nor less than what was before, by two numbers
above :
    (a b c d : ℕ) (o q : Ordering) → o ≡ nat_cmp a b → q ≡ nat_cmp c d
    → is_equal (ordering_then o q) ≡ false → is_less (ordering_then o q) ≡ false → (b ≤ a) × (b ≡ a → d < c)
above a b c d Less q e f g h = absurd (true≢false h)
above a b c d Equal Less e f g h = absurd (true≢false h)
above a b c d Equal Equal e f g h = absurd (true≢false g)
above a b c d Equal Greater e f g h = let x : a ≡ b = ranked a b Equal e in let y : d < c = ranked c d Greater f in (omega arith, λ z. y)
above a b c d Greater q e f g h = let x : b < a = ranked a b Greater e in (omega arith, λ z. absurd (omega arith))

later : (t i : ℕ) (d e : LevelReactionImage) → Passes (level_order_checks t i e d) → After d e
later t i d e h =
    let o = level_order e d in
    let equal = not-true (is_equal o) (test h) in
    let less = not-true (is_less o) (test (rest h)) in
    let x = above e.level d.level e.reaction.0 d.reaction.0 _ _ refl refl equal less in
    record { level = x.0; reaction = x.1 }

after_trans : {c d e : LevelReactionImage} → After c d → After d e → After c e
after_trans {c} {d} {e} x y =
    let a = x.level in
    let b = y.level in
    record {
      level = omega arith;
      reaction = λ z. let u = x.reaction (omega arith) in let v = y.reaction (omega arith) in omega arith;
    }

-- so the entries of a range rise by level, and those of one level by reaction
pub in_order :
    {m : Image} {entry : ℕ → LevelReactionImage} (len : ℕ)
    → ((k : ℕ) → k < len → EntryHolds m entry k)
    → (j k : ℕ) → j < k → k < len → After (entry j) (entry k)
in_order len h j zero l u = absurd (omega arith)
in_order {entry = entry} len h j (suc k) l u =
    let e : suc k - 1 ≡ k = omega arith in
    let a : After (entry k) (entry (suc k)) = rw e at (h (suc k) u).after (omega arith) in
    let more = in_order {entry = entry} len h j k in
    elim (dec_le k j) [ yes g ↦ (let x : j ≡ k = omega arith in rw x a) | no g ↦ after_trans (more (omega arith) (omega arith)) a ]

not_first : (k : ℕ) (cs : List Check) → 0 < k → Passes (after_first k cs) → Passes cs
not_first k cs l h = rw (ne_eqb k 0 (λ e. omega arith)) at h

module _ (m : Image) where
  -- entry k of a range of table t passes what its kind asks for itself, and holds
  module _ {A : Type 0} (own : ℕ → ℕ → A → List Check) (level : A → LevelReactionImage) (entries : ℕ → ℕ → A) (t start : ℕ) where
    abbrev Listed : ℕ → Type 0
    Listed k = Passes (own t (entry_index start k) (entries t (start + k))) × EntryHolds m (λ j. level (entries t (start + j))) k

    listed_entry : (k : ℕ) → Passes (listed_checks m.rows m.reactions own level entries t start k) → Listed k
    unfolding listed_checks
    listed_entry k h =
        let i = entry_index start k in
        let x = entries t (start + k) in
        let d = level (entries t (start + (k - 1))) in
        let order = level_order_checks t i (level x) d in
        let whole = parts (entry_checks m.rows m.reactions own level t i x) (after_first k order) h in
        let entry = parts (own t i x) (level_ref_checks m.rows m.reactions t i (level x)) whole.0 in
        (entry.0, record { holds = level_holds m t i (level x) entry.1; after = λ l. later t i d (level x) (not_first k order l whole.1) })

    range_entry : (len : ℕ) → Passes (range_of_checks m.rows m.reactions own level entries t start len) → (k : ℕ) → k < len → Listed k
    unfolding range_of_checks
    range_entry len h k l = listed_entry k (item (listed_checks m.rows m.reactions own level entries t start) len h k l)

  -- entry k of a range of levels, and of one of lifecycle reactions, whose actions are there
  abbrev pub InLevels : ℕ → ℕ → ℕ → Type 0
  InLevels t start k = EntryHolds m (λ j. m.levels t (start + j)) k

  abbrev pub InLifecycles : ℕ → ℕ → ℕ → Type 0
  InLifecycles t start k = ((m.lifecycles t (start + k)).action.0 < m.rows 3) × EntryHolds m (λ j. (m.lifecycles t (start + j)).reaction) k

  levels_hold : (t start len : ℕ) → Passes (levels_checks m.rows m.reactions m.levels t start len) → (k : ℕ) → k < len → InLevels t start k
  levels_hold t start len h k l = (range_entry (no_more m.rows) level_of m.levels t start len h k l).1

  lifecycles_hold : (t start len : ℕ) → Passes (lifecycles_checks m.rows m.reactions m.lifecycles t start len) → (k : ℕ) → k < len → InLifecycles t start k
  lifecycles_hold t start len h k l =
      let e = range_entry (action_checks m.rows) reaction_of m.lifecycles t start len h k l in
      (below e.0, e.1)

  triggers_hold : (triggers : ℕ → SliceRange) (i : ℕ) → Passes (trigger_checks triggers m i) → (k : ℕ) → k < (triggers i).len → InLevels 8 (triggers i).start k
  unfolding trigger_checks
  triggers_hold triggers i h = levels_hold 8 (triggers i).start (triggers i).len h

  module _ (h : EachPasses m) where
    -- the triggers of action i, and of port i
    pub action_triggers : (i : ℕ) → i < m.rows 3 → (k : ℕ) → k < (m.actions i).triggers.len → InLevels 8 (m.actions i).triggers.start k
    unfolding action_trigger_checks
    action_triggers i l = triggers_hold (λ j. (m.actions j).triggers) i (h.action_triggers i l)

    pub port_triggers : (i : ℕ) → i < m.rows 4 → (k : ℕ) → k < (m.ports i).triggers.len → InLevels 8 (m.ports i).triggers.start k
    unfolding port_trigger_checks
    port_triggers i l = triggers_hold (λ j. (m.ports j).triggers) i (h.port_triggers i l)

    -- mode k of those that reaction i names as enabled
    abbrev enabled_mode : ℕ → ℕ → ℕ
    enabled_mode i k = m.indexes 12 ((m.reactions i).enabled.start + k)

    -- it is there, and is the reaction's reactor's
    pub enabled_modes : (i : ℕ) → i < m.rows 5 → (k : ℕ) → k < (m.reactions i).enabled.len
        → (enabled_mode i k < m.rows 6) × ((m.modes (enabled_mode i k)).reactor.0 ≡ (m.reactions i).reactor)
    unfolding enabled_modes_checks enabled_mode_checks
    enabled_modes i l k u =
        let row = m.reactions i in
        let x = item (enabled_mode_checks m.rows m.modes m.indexes i row.reactor row.enabled.start) row.enabled.len (h.enabled_modes i l) k u in
        (below x, equal (rest x))

    -- the reactions of scope i: reset, startup, shutdown
    abbrev reset : ℕ → List Check
    reset i = levels_checks m.rows m.reactions m.levels 16 (m.scopes i).reset_reactions.start (m.scopes i).reset_reactions.len

    abbrev startup : ℕ → List Check
    startup i = lifecycles_checks m.rows m.reactions m.lifecycles 17 (m.scopes i).startup_reactions.start (m.scopes i).startup_reactions.len

    abbrev shutdown : ℕ → List Check
    shutdown i = lifecycles_checks m.rows m.reactions m.lifecycles 18 (m.scopes i).shutdown_reactions.start (m.scopes i).shutdown_reactions.len

    scope_lists : (i : ℕ) → i < m.rows 7 → Passes (reset i) × Passes (startup i) × Passes (shutdown i)
    unfolding scope_list_checks
    scope_lists i l =
        let x = parts (reset i) (startup i ++ shutdown i) (h.scope_lists i l) in
        let y = parts (startup i) (shutdown i) x.1 in
        (x.0, y.0, y.1)

    pub reset_reactions : (i : ℕ) → i < m.rows 7 → (k : ℕ) → k < (m.scopes i).reset_reactions.len → InLevels 16 (m.scopes i).reset_reactions.start k
    reset_reactions i l = levels_hold 16 _ _ (scope_lists i l).0

    pub startup_reactions : (i : ℕ) → i < m.rows 7 → (k : ℕ) → k < (m.scopes i).startup_reactions.len → InLifecycles 17 (m.scopes i).startup_reactions.start k
    startup_reactions i l = lifecycles_hold 17 _ _ (scope_lists i l).1

    pub shutdown_reactions : (i : ℕ) → i < m.rows 7 → (k : ℕ) → k < (m.scopes i).shutdown_reactions.len → InLifecycles 18 (m.scopes i).shutdown_reactions.start k
    shutdown_reactions i l = lifecycles_hold 18 _ _ (scope_lists i l).2

    -- one entry, whether or not some range covers it
    pub trigger : (i : ℕ) → i < m.rows 8 → LevelHolds m (m.levels 8 i)
    unfolding level_entry_checks listed_entry_checks
    trigger i l = level_holds m 8 i (m.levels 8 i) (h.trigger i l)

    pub use_port : (i : ℕ) → i < m.rows 9 → m.indexes 9 i < m.rows 4
    unfolding index_checks named_checks
    use_port i l = below (h.use_port i l)

    pub effect_port : (i : ℕ) → i < m.rows 10 → m.indexes 10 i < m.rows 4
    unfolding index_checks named_checks
    effect_port i l = below (h.effect_port i l)

    -- the ports that reaction i has effects on
    pub reaction_effects : (i : ℕ) → i < m.rows 5 → (k : ℕ) → k < (m.reactions i).effects.len → m.indexes 10 ((m.reactions i).effects.start + k) < m.rows 4
    reaction_effects i l k u =
        let x = (reaction_holds m i (h.reaction i l)).effects.inside in
        effect_port ((m.reactions i).effects.start + k) (omega arith)
