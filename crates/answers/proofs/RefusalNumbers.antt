-- What holds of the numbers of every refusal: the first is neither 0 nor 11, and there are at most seven; and of the list that has them first. Assumes nothing.
use Prim.Native.Nat.{ℕ, ◌≤◌}
use mathlib.Core.Bool.{false}
use mathlib.Core.Path.{◌≡◌, refl, ◌∙◌}
use mathlib.Core.List.{List, ◌++◌}
use native.Mathlib.Omega.{arith}
use lib.Dec.{eqb}
use lib.ListN.{length, get_or, take, replicate}
use lib.Seq.{take-take, take-append_seam}
use borrow.Author.Tests.{eqb-false}
use Rattle.answers.specs.declared.Refusal.{Refusal}
use Rattle.answers.specs.declared.Refusal.TheVariants.{Length, TextTooLong, TableOutOfPlace, StrayByte, IdentityOutside, NotUtf8, ReferenceOutOfBounds, RangeOutOfBounds, RangesNotMonotonic, EntriesNotSorted, DuplicateEntry, OwnershipMismatch, ScopeParentCycle, InvalidStableId, StableIdsNotSorted, DuplicateStableId, InvalidBankInfo, StorageBoundExceeded, BindingKindMismatch, BindingPresenceMismatch, DuplicateRouteHalf, RoutePairMismatch, UnpairedRoute, PhysicalRoute, ScopeTooDeep, TooManyReactors, LevelNotRising, ScratchTooShort, OutputTooShort, NoSuchRecord, RecordLength, TableChanges, ScopeCount, ZeroDeadline, TallyFull, ParentsLength, ParentOutside, NotATree, LinkSumTooLarge, NothingToDivide, NoSuchTally}
use Rattle.answers.specs.declared.NumberList.{NumberList}
use Rattle.answers.specs.Numbers.{numbers}
use Rattle.answers.specs.Listed.{listed}

abbrev Shaped : List ℕ → Type 0
Shaped ns = (1 ≤ get_or ns 0 0) × (length ns ≤ 7) × (eqb (get_or ns 0 0) 11 ≡ false)

shaped : (r : Refusal) → Shaped (numbers r)
unfolding numbers
shaped Length = (omega arith, omega arith, refl)
shaped (TextTooLong house) = (omega arith, omega arith, refl)
shaped (TableOutOfPlace number) = (omega arith, omega arith, refl)
shaped (StrayByte number) = (omega arith, omega arith, refl)
shaped (IdentityOutside number) = (omega arith, omega arith, refl)
shaped (NotUtf8 number) = (omega arith, omega arith, refl)
shaped (ReferenceOutOfBounds at target referenced rows) = (omega arith, omega arith, refl)
shaped (RangeOutOfBounds at target start len) = (omega arith, omega arith, refl)
shaped (RangesNotMonotonic at start end) = (omega arith, omega arith, refl)
shaped (EntriesNotSorted table index) = (omega arith, omega arith, refl)
shaped (DuplicateEntry table index) = (omega arith, omega arith, refl)
shaped (OwnershipMismatch at) = (omega arith, omega arith, refl)
shaped (ScopeParentCycle scope) = (omega arith, omega arith, refl)
shaped (InvalidStableId id) = (omega arith, omega arith, refl)
shaped (StableIdsNotSorted id) = (omega arith, omega arith, refl)
shaped (DuplicateStableId id) = (omega arith, omega arith, refl)
shaped (InvalidBankInfo reactor index total) = (omega arith, omega arith, refl)
shaped (StorageBoundExceeded table index slot bound) = (omega arith, omega arith, refl)
shaped (BindingKindMismatch at) = (omega arith, omega arith, refl)
shaped (BindingPresenceMismatch at) = (omega arith, omega arith, refl)
shaped (DuplicateRouteHalf boundary direction) = (omega arith, omega arith, refl)
shaped (RoutePairMismatch boundary field) = (omega arith, omega arith, refl)
shaped (UnpairedRoute boundary direction) = (omega arith, omega arith, refl)
shaped (PhysicalRoute enclave route) = (omega arith, omega arith, refl)
shaped (ScopeTooDeep enclave scope) = (omega arith, omega arith, refl)
shaped (TooManyReactors enclave reactors) = (omega arith, omega arith, refl)
shaped (LevelNotRising reaction target) = (omega arith, omega arith, refl)
shaped ScratchTooShort = (omega arith, omega arith, refl)
shaped OutputTooShort = (omega arith, omega arith, refl)
shaped NoSuchRecord = (omega arith, omega arith, refl)
shaped RecordLength = (omega arith, omega arith, refl)
shaped TableChanges = (omega arith, omega arith, refl)
shaped ScopeCount = (omega arith, omega arith, refl)
shaped (ZeroDeadline index) = (omega arith, omega arith, refl)
shaped TallyFull = (omega arith, omega arith, refl)
shaped ParentsLength = (omega arith, omega arith, refl)
shaped ParentOutside = (omega arith, omega arith, refl)
shaped NotATree = (omega arith, omega arith, refl)
shaped LinkSumTooLarge = (omega arith, omega arith, refl)
shaped NothingToDivide = (omega arith, omega arith, refl)
shaped NoSuchTally = (omega arith, omega arith, refl)

pub number-positive : (r : Refusal) → 1 ≤ get_or (numbers r) 0 0
number-positive r = (shaped r).0

pub numbers-few : (r : Refusal) → length (numbers r) ≤ 7
numbers-few r = (shaped r).1

pub not_eleven : (r : Refusal) → get_or (numbers r) 0 0 ≡ 11 → ⊥
not_eleven r = eqb-false (get_or (numbers r) 0 0) 11 (shaped r).2

pub numbers-first : (r : Refusal) (l : NumberList) → l ≡ listed (length (numbers r)) (numbers r) → take l.len l.values ≡ numbers r
numbers-first r l e =
    rw e (take-take (length (numbers r)) 8 (numbers r ++ replicate 8 0) (omega (arith, numbers-few r)) ∙ take-append_seam (numbers r) (replicate 8 0))

pub numbers_fit : (r : Refusal) (l : NumberList) → l ≡ listed (length (numbers r)) (numbers r) → l.len ≤ 8
numbers_fit r l e = rw e (omega (arith, numbers-few r))

pub ruleset number_laws = (numbers-first, numbers_fit)
