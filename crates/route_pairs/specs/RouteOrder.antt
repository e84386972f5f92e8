-- Rows of routes in the order of their boundaries. Only the inner functions of the sort and of the scan say what they do by these. Assumes nothing.
use Rattle.std.specs.Prelude.{ℕ, zero, suc, ◌+◌, ◌<◌, ◌≤◌, Bool, true, false, not, ◌&&◌, ◌||◌, cond, ◌≡◌, List, [], ◌∷◌, ◌++◌, leb, length, slice_index, Option, MatchOption}
use Rattle.std.specs.Ordering.{nat_cmp, is_lt, ordering_then}
use Rattle.std.specs.declared.cmp.Ordering.{Ordering}
use Rattle.identity.specs.declared.IdentityPlace.{IdentityPlace}
use Rattle.identity.specs.Text.{identity_text}
use Rattle.identity.specs.Order.{compared}
use Rattle.answers.specs.Checks.{Check, first, passed}
use Rattle.schema.specs.declared.rows.RouteImage.{RouteImage}
use Rattle.schema.specs.Rows.{route_at}
use Rattle.schema.specs.Records.{records_of, is_of}
use Rattle.checks.specs.Identities.{is_equal}
use Rattle.route_pairs.specs.declared.Federate.{Federate}
use Rattle.route_pairs.specs.RoutePairs.{goes, other_domain, other_delay, route_record_checks}

-- the text that an identity names, and the text of record n's boundary
abbrev pub text_of : Federate → IdentityPlace → List ℕ
text_of r = identity_text r.texts.batch.now r.texts.house.now

abbrev pub boundary_at : (IdentityPlace → List ℕ) → List ℕ → ℕ → List ℕ
boundary_at text p n = text (route_at p n).boundary

-- the records below n that are routes
unfoldable pub routes_below : List ℕ → ℕ → List ℕ
routes_below p zero = []
routes_below p (suc n) = routes_below p n ++ cond (is_of p 23 n) (n ∷ []) []

abbrev pub routes_of : List ℕ → List ℕ
routes_of p = routes_below p (records_of p)

-- rows by their texts, then by their numbers
unfoldable pub row_order : (ℕ → List ℕ) → ℕ → ℕ → Ordering
row_order key a b = ordering_then (compared (key a) (key b)) (nat_cmp a b)

-- no row comes before one that is less
abbrev pub InOrder : (ℕ → ℕ → Ordering) → List ℕ → Type 0
InOrder order rows = (a b : ℕ) → a ≤ b → b < length rows → is_lt (order (slice_index rows b) (slice_index rows a)) ≡ false

-- two routes of one boundary that are its two halves: one in and one out, of one domain and one delay
abbrev pub are_halves : RouteImage → RouteImage → Bool
are_halves a b = not (goes b.direction a) && (not (other_domain a b) && not (other_delay a b))

-- the rows of the pack p in some order, as its texts say
module _ (text : IdentityPlace → List ℕ) (p rows : List ℕ) where
  -- no row at place j is of the boundary of the row at place k
  abbrev pub parted : ℕ → ℕ → Bool
  parted k j =
      leb (length rows) j
      || not (is_equal (compared (boundary_at text p (slice_index rows k)) (boundary_at text p (slice_index rows j))))

  -- the row at place k is the last of its boundary, or the other half follows it and no third
  unfoldable pub fits : ℕ → Bool
  fits k = parted k (k + 1) || (are_halves (route_at p (slice_index rows k)) (route_at p (slice_index rows (k + 1))) && parted k (k + 2))

  -- of the first k places, those with a row below `least` fit; not all of that row do, where it is a record
  pub record Scanned (k least : ℕ) : Type 0 where
    pub within : least ≤ records_of p
    pub passed : (j : ℕ) → j < k → slice_index rows j < least → fits j ≡ true
    pub named : least < records_of p → ((j : ℕ) → j < k → slice_index rows j ≡ least → fits j ≡ true) → ⊥

-- of n lists of checks the i-th is the first that does not pass; all pass where i is n
pub record FirstFault (f : ℕ → List Check) (i n : ℕ) : Type 0 where
  pub within : i ≤ n
  pub passes : (k : ℕ) → k < i → first (f k) ≡ passed
  pub stops : i < n → first (f i) ≡ passed → ⊥

-- record i is the first route at fault, or the number of records where none is
abbrev pub FirstRouteFault : Federate → ℕ → Type 0
FirstRouteFault r i = FirstFault (route_record_checks (text_of r) r.pack.bytes.now) i (records_of r.pack.bytes.now)

-- P holds of what was found below n, or of n where nothing was
abbrev pub FoundBelow : ℕ → (ℕ → Type 0) → Option ℕ → Type 0
FoundBelow n P found = MatchOption found (P n) (λ i. (i < n) × P i)
