-- UTF-8: the scalars, their bytes, and the scalars of a text.
use Rattle.std.specs.Prelude.{ℕ, zero, suc, ◌+◌, ◌*◌, ◌/◌, ◌%◌, ◌-◌, Bool, ◌&&◌, ◌||◌, cond, List, [], ◌∷◌, ◌++◌, ltb, leb, get_or, Option, Some, None, is_some}
use Rattle.identity.specs.Within.{within}
use Rattle.identity.specs.declared.decode.Scalar.{Scalar}

-- The scalars that a text may have: up to 10FFFF, and none of D800 to DFFF, each of which is half of a pair of UTF-16.
unfoldable pub allowed : ℕ → Bool
allowed v = leb v 0xD7FF || within 0xE000 0x10FFFF v

-- The bytes of a scalar, by the table of RFC 3629, section 3: six bits to each following byte, the highest bits first.
unfoldable pub encode : ℕ → List ℕ
encode v =
    cond (ltb v 0x80) (v ∷ [])
    (cond (ltb v 0x800) ((0xC0 + v / 64) ∷ (0x80 + v % 64) ∷ [])
    (cond (ltb v 0x10000) ((0xE0 + v / 4096) ∷ (0x80 + v / 64 % 64) ∷ (0x80 + v % 64) ∷ [])
    ((0xF0 + v / 262144) ∷ (0x80 + v / 4096 % 64) ∷ (0x80 + v / 64 % 64) ∷ (0x80 + v % 64) ∷ [])))

unfoldable pub encode_all : List ℕ → List ℕ
encode_all [] = []
encode_all (v ∷ vs) = encode v ++ encode_all vs

-- What stands at a place of a text, where bytes that encode no scalar are none: a scalar v in w bytes.
abbrev pub scalar : ℕ → ℕ → Option Scalar
scalar v w = Some (record { value = v; width = w })

-- A following byte.
abbrev pub follows : ℕ → Bool
follows b = within 0x80 0xBF b

-- The scalar v in w bytes, where its following bytes are such, it is not below the first scalar of that length, and it is allowed.
abbrev pub checked : Bool → ℕ → ℕ → ℕ → Option Scalar
checked following low v w = cond (following && (leb low v && allowed v)) (scalar v w) None

-- The values of two, three and four bytes: the low bits of the first, then six bits of each following byte.
abbrev pub value_of_two : ℕ → ℕ → ℕ
value_of_two a b = a % 32 * 64 + b % 64

abbrev pub value_of_three : ℕ → ℕ → ℕ → ℕ
value_of_three a b c = a % 16 * 4096 + b % 64 * 64 + c % 64

abbrev pub value_of_four : ℕ → ℕ → ℕ → ℕ → ℕ
value_of_four a b c d = a % 8 * 262144 + b % 64 * 4096 + c % 64 * 64 + d % 64

abbrev pub two_bytes : ℕ → ℕ → Option Scalar
two_bytes a b = checked (follows b) 0x80 (value_of_two a b) 2

abbrev pub three_bytes : ℕ → ℕ → ℕ → Option Scalar
three_bytes a b c = checked (follows b && follows c) 0x800 (value_of_three a b c) 3

abbrev pub four_bytes : ℕ → ℕ → ℕ → ℕ → Option Scalar
four_bytes a b c d = checked (follows b && (follows c && follows d)) 0x10000 (value_of_four a b c d) 4

-- The scalar whose first byte is a, with b, c and d after it: 00-7F alone, C2-DF and one, E0-EF and two, F0-F4 and three, nothing else.
abbrev pub scalar_of : ℕ → ℕ → ℕ → ℕ → Option Scalar
scalar_of a b c d =
    cond (within 0x00 0x7F a) (scalar a 1)
    (cond (within 0xC2 0xDF a) (two_bytes a b)
    (cond (within 0xE0 0xEF a) (three_bytes a b c)
    (cond (within 0xF0 0xF4 a) (four_bytes a b c d) None)))

-- The scalar at the place i of s. A byte past the end counts as 0, which is no following byte.
unfoldable pub scalar_at : List ℕ → ℕ → Option Scalar
scalar_at s i = scalar_of (get_or s i 0) (get_or s (i + 1) 0) (get_or s (i + 2) 0) (get_or s (i + 3) 0)

-- The scalars of a text, or none where it is not UTF-8: v before the others.
abbrev pub before : ℕ → Option (List ℕ) → Option (List ℕ)
before v (Some vs) = Some (v ∷ vs)
before v None = None

-- A scalar in front: the others come after the bytes that follow its first.
abbrev pub in_front : Option Scalar → (ℕ → Option (List ℕ)) → Option (List ℕ)
in_front (Some x) rest = before x.value (rest (x.width - 1))
in_front None rest = None

-- The scalars of s after its first k bytes.
unfoldable pub decode_after : List ℕ → ℕ → Option (List ℕ)
decode_after [] k = Some []
decode_after (b ∷ s) (suc k) = decode_after s k
decode_after (b ∷ s) zero = in_front (scalar_at (b ∷ s) 0) (decode_after s)

abbrev pub decode : List ℕ → Option (List ℕ)
decode s = decode_after s 0

abbrev pub utf8 : List ℕ → Bool
utf8 s = is_some (decode s)
