-- Document 01's number and values of each refusal, in its order, and then those of document 02. Assumes nothing.
use Rattle.std.specs.Prelude.{ℕ, Bool, cond, List, [], ◌∷◌}
use Rattle.identity.specs.declared.IdentityPlace.{IdentityPlace}
use Rattle.schema.specs.Records.{direction_number}
use Rattle.answers.specs.declared.field.RowField.{RowField}
use Rattle.answers.specs.declared.id.StableId.{StableId}
use Rattle.answers.specs.declared.Refusal.{Refusal}
use Rattle.answers.specs.declared.Refusal.TheVariants.{Length, TextTooLong, TableOutOfPlace, StrayByte, IdentityOutside, NotUtf8, ReferenceOutOfBounds, RangeOutOfBounds, RangesNotMonotonic, EntriesNotSorted, DuplicateEntry, OwnershipMismatch, ScopeParentCycle, InvalidStableId, StableIdsNotSorted, DuplicateStableId, InvalidBankInfo, StorageBoundExceeded, BindingKindMismatch, BindingPresenceMismatch, DuplicateRouteHalf, RoutePairMismatch, UnpairedRoute, PhysicalRoute, ScopeTooDeep, TooManyReactors, LevelNotRising, ScratchTooShort, OutputTooShort, NoSuchRecord, RecordLength, TableChanges, ScopeCount, ZeroDeadline, TallyFull, ParentsLength, ParentOutside, NotATree, LinkSumTooLarge, NothingToDivide, NoSuchTally}
use Rattle.answers.specs.Fields.{field_number, kind_number}

abbrev pub bit : Bool → ℕ
bit house = cond house 1 0

-- an identity's text bit, start and length, before what follows them
abbrev pub placed : IdentityPlace → List ℕ → List ℕ
placed id rest = bit id.house ∷ id.start ∷ id.len ∷ rest

-- a row's table and index and the number of its field, and the kind and index of an identity with its place, before what follows them
abbrev pub located : RowField → List ℕ → List ℕ
located at rest = at.table ∷ at.index ∷ field_number at.field ∷ rest

abbrev pub identified : StableId → List ℕ → List ℕ
identified s rest = kind_number s.kind ∷ s.index ∷ placed s.id rest

unfoldable pub numbers : Refusal → List ℕ
numbers Length = 1 ∷ []
numbers (TextTooLong house) = 2 ∷ bit house ∷ []
numbers (TableOutOfPlace number) = 3 ∷ number ∷ []
numbers (StrayByte number) = 4 ∷ number ∷ []
numbers (IdentityOutside number) = 5 ∷ number ∷ []
numbers (NotUtf8 number) = 6 ∷ number ∷ []
numbers (ReferenceOutOfBounds at target referenced rows) = 12 ∷ located at (target ∷ referenced ∷ rows ∷ [])
numbers (RangeOutOfBounds at target start len) = 13 ∷ located at (target ∷ start ∷ len ∷ [])
numbers (RangesNotMonotonic at start end) = 14 ∷ located at (start ∷ end ∷ [])
numbers (EntriesNotSorted table index) = 15 ∷ table ∷ index ∷ []
numbers (DuplicateEntry table index) = 16 ∷ table ∷ index ∷ []
numbers (OwnershipMismatch at) = 17 ∷ located at []
numbers (ScopeParentCycle scope) = 18 ∷ scope ∷ []
numbers (InvalidStableId id) = 19 ∷ identified id []
numbers (StableIdsNotSorted id) = 20 ∷ identified id []
numbers (DuplicateStableId id) = 21 ∷ identified id []
numbers (InvalidBankInfo reactor index total) = 22 ∷ reactor ∷ index ∷ total ∷ []
numbers (StorageBoundExceeded table index slot bound) = 23 ∷ table ∷ index ∷ slot ∷ bound ∷ []
numbers (BindingKindMismatch at) = 24 ∷ located at []
numbers (BindingPresenceMismatch at) = 25 ∷ located at []
numbers (DuplicateRouteHalf boundary direction) = 27 ∷ placed boundary (direction_number direction ∷ [])
numbers (RoutePairMismatch boundary field) = 28 ∷ placed boundary (field_number field ∷ [])
numbers (UnpairedRoute boundary direction) = 26 ∷ placed boundary (direction_number direction ∷ [])
numbers (PhysicalRoute enclave route) = 29 ∷ enclave ∷ route ∷ []
numbers (ScopeTooDeep enclave scope) = 30 ∷ enclave ∷ scope ∷ []
numbers (TooManyReactors enclave reactors) = 31 ∷ enclave ∷ reactors ∷ []
numbers (LevelNotRising reaction target) = 32 ∷ reaction ∷ target ∷ []
numbers ScratchTooShort = 33 ∷ []
numbers OutputTooShort = 34 ∷ []
numbers NoSuchRecord = 35 ∷ []
numbers RecordLength = 36 ∷ []
numbers TableChanges = 37 ∷ []
numbers ScopeCount = 38 ∷ []
numbers (ZeroDeadline index) = 39 ∷ index ∷ []
numbers TallyFull = 40 ∷ []
numbers ParentsLength = 41 ∷ []
numbers ParentOutside = 42 ∷ []
numbers NotATree = 43 ∷ []
numbers LinkSumTooLarge = 44 ∷ []
numbers NothingToDivide = 45 ∷ []
numbers NoSuchTally = 46 ∷ []
