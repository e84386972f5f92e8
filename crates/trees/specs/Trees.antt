-- Tables of parents, a byte for each of n scopes: which are legal, and all of these in their order (document 02, Wish 10). Assumes nothing.
use Rattle.std.specs.Prelude.{ℕ, zero, suc, ◌+◌, ◌-◌, ◌*◌, ◌/◌, ◌%◌, ◌^◌, Bool, true, ◌&&◌, leb, List, [], ◌∷◌, ◌++◌, get_or, filter, slice_get, Option, Some, None, is_none}
use Rattle.schema.specs.Indexes.{ScopeIndex}
use Rattle.accepted.specs.Chains.{ancestor}

-- "0 for no parent and p + 1 for parent p"
abbrev pub parent_of : ℕ → Option ScopeIndex
parent_of zero = None
parent_of (suc p) = Some (record { 0 = p })

-- the parents in a table: that of scope i is byte i
abbrev pub parents_in : List ℕ → ℕ → Option ScopeIndex
parents_in t i = parent_of (get_or t i 0)

-- no byte is over n
unfoldable pub at_most : ℕ → List ℕ → Bool
at_most n [] = true
at_most n (b ∷ t) = leb b n && at_most n t

-- the chain of parents of scope i ends: n links lead nowhere
abbrev pub ends : ℕ → List ℕ → ℕ → Bool
ends n t i = is_none (ancestor (parents_in t) n i)

-- and so for each of the first k scopes
unfoldable pub all_end : ℕ → List ℕ → ℕ → Bool
all_end n t zero = true
all_end n t (suc k) = all_end n t k && ends n t k

-- a legal table is one of trees: every chain of parents ends
abbrev pub legal : ℕ → List ℕ → Bool
legal n t = all_end n t n

-- the first k bytes as a number in base b, the first leading
unfoldable pub value : ℕ → List ℕ → ℕ → ℕ
value b t zero = 0
value b t (suc k) = value b t k * b + get_or t k 0

-- "numbers in base n + 1, scope 0 leading"
abbrev pub number : ℕ → List ℕ → ℕ
number n t = value (n + 1) t n

-- k bytes of a number in base b
unfoldable pub digits : ℕ → ℕ → ℕ → List ℕ
digits b zero v = []
digits b (suc k) v = digits b k (v / b) ++ (v % b) ∷ []

abbrev pub table_of : ℕ → ℕ → List ℕ
table_of n v = digits (n + 1) n v

-- how many tables of n bytes from 0 to n there are
abbrev pub total : ℕ → ℕ
total n = (n + 1) ^ n

-- the tables of the numbers v, v + 1, .., k of them
unfoldable pub tables : ℕ → ℕ → ℕ → List (List ℕ)
tables n v zero = []
tables n v (suc k) = table_of n v ∷ tables n (suc v) k

-- the legal tables whose numbers are v or more, rising
unfoldable pub legal_from : ℕ → ℕ → List (List ℕ)
legal_from n v = filter (legal n) (tables n v (total n - v))

-- the first of them, where there is one
abbrev pub first_from : ℕ → ℕ → Option (List ℕ)
first_from n v = slice_get (legal_from n v) 0
