-- How the record of each table is laid out, table by table: document 01, "The pack", and table 25 document 02, Wish 12. Assumes nothing.
use Rattle.std.specs.Prelude.{ℕ, zero, suc, ◌+◌, List, [], ◌∷◌, get_or}

-- a field: a W, a D, or a W whose presence bit is bit k of byte 1
pub data Field : Type 0 where
  W D : Field
  W-if : ℕ → Field

abbrev pub bytes : Field → ℕ
bytes W = 4
bytes D = 8
bytes (W-if k) = 4

-- byte 1 is at most `bits` and byte 2 at most `kinds`, since the bits and kinds named are the lowest; the fields follow from byte 4.
-- The first fields are `identities` pairs of W; identity j is in the house text where bit j of byte 1 is 1
pub record Layout : Type 0 where
  pub bits : ℕ
  pub kinds : ℕ
  pub identities : ℕ
  pub fields : List Field

abbrev pub layout : ℕ → ℕ → ℕ → List Field → Layout
layout b k i fs = record { bits = b; kinds = k; identities = i; fields = fs }

abbrev pub plain : List Field → Layout
plain fs = layout 0 0 0 fs

-- 0: id, target, runtime; enclaves span
abbrev pub federate : Layout
federate = layout 7 0 3 (W ∷ W ∷ W ∷ W ∷ W ∷ W ∷ D ∷ D ∷ [])

-- 1: identity; state slots, action slots, event capacity; payload, state, scratch bytes
abbrev pub enclave : Layout
enclave = layout 1 0 1 (W ∷ W ∷ W ∷ W ∷ W ∷ D ∷ D ∷ D ∷ [])

-- 2: state binding, state slot, root scope; modes span; initial mode; bank index, bank total
abbrev pub reactors : Layout
reactors = layout 3 0 0 (W ∷ W ∷ W ∷ D ∷ D ∷ W-if 0 ∷ W-if 1 ∷ W-if 1 ∷ [])

-- 3: scope, slot, binding; minimum delay or period; triggers range
abbrev pub actions : Layout
actions = layout 3 3 0 (W ∷ W ∷ W-if 0 ∷ D ∷ W ∷ W ∷ [])

-- 4: binding, scope; triggers range
abbrev pub ports : Layout
ports = plain (W ∷ W ∷ W ∷ W ∷ [])

-- 5: reactor, scope, level, binding; ranges use, effect, actions, enabled modes; effect target
abbrev pub reactions : Layout
reactions = layout 3 1 0 (W ∷ W ∷ W ∷ W ∷ W ∷ W ∷ W ∷ W ∷ W ∷ W ∷ W ∷ W ∷ W-if 1 ∷ [])

-- 6: reactor, scope
abbrev pub modes : Layout
modes = plain (W ∷ W ∷ [])

-- 7: parent, reactor, mode; ranges descendants, logical actions, timer startups, reset, startup, shutdown
abbrev pub scopes : Layout
scopes = layout 3 0 0 (W-if 0 ∷ W ∷ W-if 1 ∷ W ∷ W ∷ W ∷ W ∷ W ∷ W ∷ W ∷ W ∷ W ∷ W ∷ W ∷ W ∷ [])

-- 8, 16: level, reaction
abbrev pub levels : Layout
levels = plain (W ∷ W ∷ [])

-- 9, 10, 11, 12, 13, 14, 22: one index
abbrev pub indexes : Layout
indexes = plain (W ∷ [])

-- 15, 19, 20: action, delay
abbrev pub startups : Layout
startups = plain (W ∷ D ∷ [])

-- 17, 18, 21: level, reaction, action
abbrev pub lifecycles : Layout
lifecycles = plain (W ∷ W ∷ W ∷ [])

-- 23: identity; local port; delay. Byte 2: bit 0 outbound, bit 1 physical
abbrev pub routes : Layout
routes = layout 1 3 1 (W ∷ W ∷ W ∷ D ∷ [])

-- 24: identity. Byte 2: the binding's kind
abbrev pub bindings : Layout
bindings = layout 1 3 1 (W ∷ W ∷ [])

-- 25: reaction; nanoseconds
abbrev pub deadlines : Layout
deadlines = plain (W ∷ D ∷ [])

-- the layouts of tables 0 to 25
unfoldable pub layouts : List Layout
layouts =
    federate ∷ enclave ∷ reactors ∷ actions ∷ ports ∷ reactions ∷ modes ∷ scopes
    ∷ levels ∷ indexes ∷ indexes ∷ indexes ∷ indexes ∷ indexes ∷ indexes ∷ startups
    ∷ levels ∷ lifecycles ∷ lifecycles ∷ startups ∷ startups ∷ lifecycles ∷ indexes
    ∷ routes ∷ bindings ∷ deadlines ∷ []

-- where field k starts in its record: fields follow from byte 4 without gaps
abbrev pub offset_from : ℕ → List Field → ℕ → ℕ
offset_from o fs zero = o
offset_from o [] (suc k) = o
offset_from o (f ∷ fs) (suc k) = offset_from (o + bytes f) fs k

abbrev pub offset : Layout → ℕ → ℕ
offset l k = offset_from 4 l.fields k

abbrev pub field_at : Layout → ℕ → Field
field_at l k = get_or l.fields k W
