-- The keys of the tables, by their names.
use Rattle.schema.specs.declared.index.Index.{Index}

abbrev pub ReactorIndex : Type 0
ReactorIndex = Index 2

abbrev pub ActionIndex : Type 0
ActionIndex = Index 3

abbrev pub PortIndex : Type 0
PortIndex = Index 4

abbrev pub ReactionIndex : Type 0
ReactionIndex = Index 5

abbrev pub ModeIndex : Type 0
ModeIndex = Index 6

abbrev pub ScopeIndex : Type 0
ScopeIndex = Index 7

abbrev pub BindingSlotIndex : Type 0
BindingSlotIndex = Index 24
