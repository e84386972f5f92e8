-- The text of an identity: what a place in one of two texts holds, and where it lies (document 01, "Text of an identity").
use Rattle.std.specs.Prelude.{ℕ, ◌+◌, Bool, cond, List, [], leb, length, take, drop}
use Rattle.identity.specs.declared.IdentityPlace.{IdentityPlace}

-- Whether the text t has n bytes from a.
abbrev pub inside : List ℕ → ℕ → ℕ → Bool
inside t a n = leb (a + n) (length t)

-- The n bytes of t from a; nothing where that place is outside.
abbrev pub part_at : List ℕ → ℕ → ℕ → List ℕ
part_at t a n = cond (inside t a n) (take n (drop a t)) []

-- Where that part starts, in a text t that starts at p (a block of memory and an offset in it): at p where the place is outside.
abbrev pub part_pointer : ℕ × ℕ → List ℕ → ℕ → ℕ → ℕ × ℕ
part_pointer p t a n = cond (inside t a n) (p.0, a + p.1) p

-- The text that a place is in.
abbrev pub named_text : List ℕ → List ℕ → IdentityPlace → List ℕ
named_text batch house place = cond place.house house batch

abbrev pub place_inside : List ℕ → List ℕ → IdentityPlace → Bool
place_inside batch house place = inside (named_text batch house place) place.start place.len

abbrev pub identity_text : List ℕ → List ℕ → IdentityPlace → List ℕ
identity_text batch house place = part_at (named_text batch house place) place.start place.len

-- Where that text starts, with the batch text at b and the house text at h.
abbrev pub identity_pointer : ℕ × ℕ → ℕ × ℕ → List ℕ → List ℕ → IdentityPlace → ℕ × ℕ
identity_pointer b h batch house place =
    part_pointer (cond place.house h b) (named_text batch house place) place.start place.len
