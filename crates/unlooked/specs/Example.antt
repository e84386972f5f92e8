-- Packs that differ in every byte that the list hides, as far as the packing rules allow, for a station and for a line: the list is no shorter.
-- Assumes nothing.
use Rattle.std.specs.Prelude.{ℕ, ◌+◌, ◌*◌, List, [], ◌∷◌, ◌++◌, take}
use lib.ListN.{replicate}
use Rattle.packing.specs.declared.PackKind.{PackKind}
use Rattle.packing.specs.declared.PackKind.TheVariants.{Enclave, Federate}
use Rattle.packing.specs.Packing.{Packed}
use Rattle.unlooked.specs.Packs.{DifferUnlooked}

-- a record: table, byte 1, byte 2, and from byte 4 the fields; zeros to 64 bytes
unfoldable pub bytes_of : ℕ → ℕ → ℕ → List ℕ → List ℕ
bytes_of table bits kind fields = take 64 (table ∷ bits ∷ kind ∷ 0 ∷ (fields ++ replicate 60 0))

-- the identity that is the first byte of the batch text
abbrev pub id : List ℕ
id = 0 ∷ 0 ∷ 0 ∷ 0 ∷ 0 ∷ 0 ∷ 0 ∷ 1 ∷ []

-- zeros, and then n bytes v
abbrev pub after : ℕ → ℕ → ℕ → List ℕ
after zeros n v = replicate zeros 0 ++ replicate n v

-- an enclave, a standard action, a timer, a reaction with a mode effect, and the three tables of startups
unfoldable pub rows : ℕ → ℕ → List ℕ
rows v k =
    bytes_of 1 0 0 (id ++ after 8 28 v)
    ++ (bytes_of 3 1 k (after 12 8 v)
    ++ (bytes_of 3 (2 * k) 2 (after 12 8 v)
    ++ (bytes_of 5 (2 + k) k []
    ++ (bytes_of 15 0 0 (after 4 8 v)
    ++ (bytes_of 19 0 0 (after 4 8 v)
    ++ bytes_of 20 0 0 (after 4 8 v))))))

-- a deadline that is not zero
unfoldable pub deadline : ℕ → List ℕ
deadline v = bytes_of 25 0 0 (after 4 8 (v + 1))

-- a station with a route and a deadline: every byte of the list is v, or v + 1 for the deadline; every bit and kind is k
unfoldable pub station : ℕ → ℕ → List ℕ
station v k = rows v k ++ (bytes_of 23 0 (2 * k) (id ++ after 4 8 v) ++ deadline v)

-- a line with such a station, whose route is the same for all v and k
unfoldable pub line_of : ℕ → ℕ → List ℕ
line_of v k = bytes_of 0 0 0 (id ++ (id ++ (id ++ after 15 1 1))) ++ (rows v k ++ (bytes_of 23 0 0 id ++ deadline v))

abbrev pub text : List ℕ
text = 97 ∷ []

abbrev pub BothPacked : PackKind → (ℕ → ℕ → List ℕ) → Type 0
BothPacked kind pack = Packed kind (pack 0 0) text [] × Packed kind (pack 7 1) text [] × DifferUnlooked kind (pack 0 0) (pack 7 1)

abbrev pub StationsDiffer : Type 0
StationsDiffer = BothPacked Enclave station

abbrev pub LinesDiffer : Type 0
LinesDiffer = BothPacked Federate line_of
