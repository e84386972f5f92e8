-- Packs written out by their fields: numbers in bytes, a record of each table that the cases need, and the records of S. Assumes nothing.
use Rattle.std.specs.Prelude.{ℕ, zero, suc, ◌/◌, ◌%◌, List, [], ◌∷◌, ◌++◌, take, replicate}

-- n in k bytes, high byte first: W is 4 bytes, D is 8
unfoldable pub bytes : ℕ → ℕ → List ℕ
bytes zero n = []
bytes (suc k) n = bytes k (n / 256) ++ ((n % 256) ∷ [])

abbrev pub W : ℕ → List ℕ
W n = bytes 4 n

abbrev pub D : ℕ → List ℕ
D n = bytes 8 n

-- the first bytes of a record, and zeros to 64 bytes
unfoldable pub padded : List ℕ → List ℕ
padded written = take 64 (written ++ replicate 60 0)

-- a record: table, byte 1, byte 2, and from byte 4 the fields
abbrev pub rec : ℕ → ℕ → ℕ → List ℕ → List ℕ
rec table bits kind fields = padded (table ∷ bits ∷ kind ∷ 0 ∷ fields)

-- the records of each table. Fields that are left out, at a record's end, are zero

-- 0: a federate whose id, target and runtime are the third byte of the batch text, by the start and length of its enclaves span
abbrev pub federate : ℕ → ℕ → List ℕ
federate start len =
    rec 0 0 0 (W 2 ++ (W 1 ++ (W 2 ++ (W 1 ++ (W 2 ++ (W 1 ++ (D start ++ D len)))))))

-- 1: an enclave, its identity's start and length in the batch text, state slots and action slots
abbrev pub enclave : ℕ → ℕ → ℕ → ℕ → List ℕ
enclave start len states actions = rec 1 0 0 (W start ++ (W len ++ (W states ++ W actions)))

-- 2: a reactor with binding 0 and slot 0, by its root scope and the start and length of its modes span
abbrev pub reactor : ℕ → ℕ → ℕ → List ℕ
reactor scope start len = rec 2 0 0 (W 0 ++ (W 0 ++ (W scope ++ (D start ++ D len))))

-- the same with scope 0 and an empty modes span at 0, in a bank
abbrev pub bank_reactor : ℕ → ℕ → List ℕ
bank_reactor index total = rec 2 2 0 (W 0 ++ (W 0 ++ (W 0 ++ (D 0 ++ (D 0 ++ (W 0 ++ (W index ++ W total)))))))

-- 3: an action in scope 0 with slot 0 and delay 0, by its kind; without a binding, or with one
abbrev pub action : ℕ → List ℕ
action kind = rec 3 0 kind []

abbrev pub bound_action : ℕ → ℕ → ℕ → ℕ → List ℕ
bound_action kind binding start len = rec 3 1 kind (W 0 ++ (W 0 ++ (W binding ++ (D 0 ++ (W start ++ W len)))))

-- 4: a port in scope 0, by its binding and triggers
abbrev pub port : ℕ → ℕ → ℕ → List ℕ
port binding start len = rec 4 0 0 (W binding ++ (W 0 ++ (W start ++ W len)))

-- 5: a reaction of reactor 0 in scope 0 at level 0, by its binding
abbrev pub reaction : ℕ → List ℕ
reaction binding = rec 5 0 0 (W 0 ++ (W 0 ++ (W 0 ++ W binding)))

-- 6: a mode, by its reactor and scope
abbrev pub mode : ℕ → ℕ → List ℕ
mode reactor scope = rec 6 0 0 (W reactor ++ W scope)

-- 7: a scope with empty ranges at 0: of a reactor; of reactor 0 under a parent; of a reactor's mode
abbrev pub scope : ℕ → List ℕ
scope reactor = rec 7 0 0 (W 0 ++ W reactor)

abbrev pub scope_under : ℕ → List ℕ
scope_under parent = rec 7 1 0 (W parent)

abbrev pub mode_scope : ℕ → ℕ → List ℕ
mode_scope reactor mode = rec 7 2 0 (W 0 ++ (W reactor ++ W mode))

-- 8: a trigger, by its level and reaction
abbrev pub trigger : ℕ → ℕ → List ℕ
trigger level reaction = rec 8 0 0 (W level ++ W reaction)

-- 24: a binding, by its kind and one byte of the batch text
abbrev pub binding : ℕ → ℕ → List ℕ
binding kind start = rec 24 0 kind (W start ++ W 1)

-- S: the batch text `ab`, and the records
abbrev pub ab : List ℕ
ab = 97 ∷ 98 ∷ []

abbrev pub enclave_s : List ℕ
enclave_s = enclave 0 1 1 0

abbrev pub reactor_s : List ℕ
reactor_s = reactor 0 0 0

abbrev pub scope_s : List ℕ
scope_s = scope 0

abbrev pub binding_s : List ℕ
binding_s = binding 0 1
