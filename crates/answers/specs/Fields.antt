-- The field numbers and the identity kinds of document 01, by the Rust's names. Assumes nothing.
use Rattle.std.specs.Prelude.{ℕ}
use Rattle.identity.specs.declared.IdentityPlace.{IdentityPlace}
use Rattle.answers.specs.declared.field.Field.{Field}
use Rattle.answers.specs.declared.field.Field.TheVariants as field
use Rattle.answers.specs.declared.field.RowField.{RowField}
use Rattle.answers.specs.declared.id.IdKind.{IdKind}
use Rattle.answers.specs.declared.id.IdKind.TheVariants as kind
use Rattle.answers.specs.declared.id.StableId.{StableId}

abbrev pub field_number : Field → ℕ
field_number field.RootReactor = 1
field_number field.StateBinding = 2
field_number field.RootScope = 3
field_number field.Modes = 4
field_number field.InitialMode = 5
field_number field.Scope = 6
field_number field.Binding = 7
field_number field.Triggers = 8
field_number field.Reactor = 9
field_number field.ScopeReactor = 10
field_number field.ModeEffectTarget = 11
field_number field.ModeEffectTargetReactor = 12
field_number field.UsePorts = 13
field_number field.EffectPorts = 14
field_number field.Actions = 15
field_number field.EnabledModes = 16
field_number field.ScopeMode = 17
field_number field.ReactorModes = 18
field_number field.Parent = 19
field_number field.Mode = 20
field_number field.Descendants = 21
field_number field.LogicalActions = 22
field_number field.TimerStartups = 23
field_number field.ResetReactions = 24
field_number field.StartupReactions = 25
field_number field.ShutdownReactions = 26
field_number field.Reaction = 27
field_number field.DependencyLevel = 28
field_number field.Action = 29
field_number field.Port = 30
field_number field.EnabledModesReactor = 31
field_number field.LocalPort = 32
field_number field.Enclaves = 33
field_number field.TimingDomain = 34
field_number field.DelayNanos = 35

abbrev pub kind_number : IdKind → ℕ
kind_number kind.Federate = 1
kind_number kind.Target = 2
kind_number kind.Runtime = 3
kind_number kind.Enclave = 4
kind_number kind.Boundary = 5
kind_number kind.Binding = 6

-- the field f of row i of table t
abbrev pub row_field : ℕ → ℕ → Field → RowField
row_field t i f = record { table = t; index = i; field = f }

-- the identity of row i, of the given kind
abbrev pub stable_id : IdKind → ℕ → IdentityPlace → StableId
stable_id kind i id = record { kind = kind; index = i; id = id }
