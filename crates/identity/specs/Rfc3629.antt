-- What `utf8` and `decode` have to do with RFC 3629. proofs/Rfc.antt proves each statement.
use Rattle.std.specs.Prelude.{ℕ, ◌+◌, ◌≤◌, Bool, true, false, ◌&&◌, ◌||◌, ◌≡◌, List, [], ◌∷◌, get_or, Some}
use Rattle.identity.specs.Within.{within}
use Rattle.identity.specs.Utf8.{allowed, encode_all, scalar, scalar_at, decode, utf8}

-- The RFC's scalars, U+0000 to U+10FFFF without those reserved for UTF-16, U+D800 to U+DFFF (section 3).
abbrev pub rfc_scalar : ℕ → Bool
rfc_scalar v = within 0x0000 0xD7FF v || within 0xE000 0x10FFFF v

abbrev pub rfc_scalars : List ℕ → Bool
rfc_scalars [] = true
rfc_scalars (v ∷ vs) = rfc_scalar v && rfc_scalars vs

-- The check allows the RFC's scalars and no others.
abbrev pub AllowedIsRfc : Type 0
AllowedIsRfc = (v : ℕ) → allowed v ≡ rfc_scalar v

-- The bytes s are the encodings of the scalars vs, one after the other, and each is a scalar of the RFC.
pub record Encodes (s vs : List ℕ) : Type 0 where
  pub bytes : s ≡ encode_all vs
  pub scalars : rfc_scalars vs ≡ true

-- Bytes are UTF-8 exactly when they are the encodings of some list of the RFC's scalars.
abbrev pub Utf8IsEncoding : Type 0
Utf8IsEncoding =
    (s : List ℕ) → (utf8 s ≡ true → (vs : List ℕ) × Encodes s vs) × (((vs : List ℕ) × Encodes s vs) → utf8 s ≡ true)

-- The scalars decoded are the ones encoded, and no others.
abbrev pub DecodeInvertsEncode : Type 0
DecodeInvertsEncode = (s vs : List ℕ) → (decode s ≡ Some vs → Encodes s vs) × (Encodes s vs → decode s ≡ Some vs)

-- After ED, where a scalar stands, the next byte is at most 9F.
abbrev pub AfterED : Type 0
AfterED = (s : List ℕ) (i v w : ℕ) → get_or s i 0 ≡ 0xED → scalar_at s i ≡ scalar v w → get_or s (i + 1) 0 ≤ 0x9F

-- The last scalar before the surrogates and the first after them are good; the first and the last surrogate are not.
abbrev pub AroundSurrogates : Type 0
AroundSurrogates =
    utf8 (0xED ∷ 0x9F ∷ 0xBF ∷ [])
    ∷ utf8 (0xEE ∷ 0x80 ∷ 0x80 ∷ [])
    ∷ utf8 (0xED ∷ 0xA0 ∷ 0x80 ∷ [])
    ∷ utf8 (0xED ∷ 0xBF ∷ 0xBF ∷ [])
    ∷ []
    ≡ true ∷ true ∷ false ∷ false ∷ []
