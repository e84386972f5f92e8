-- Every route half has its other half somewhere in the line, the same station included (document 02, Wish 2). Assumes nothing.
use Rattle.std.specs.Prelude.{ℕ, ◌||◌, ◌&&◌, ◌-◌, ◌+◌, ◌≡◌, Bool, cond, List, [], ◌∷◌, leb, eqb}
use Rattle.identity.specs.declared.IdentityPlace.{IdentityPlace}
use Rattle.answers.specs.declared.Refusal.TheVariants.{UnpairedRoute}
use Rattle.answers.specs.Checks.{Check, need, first, run, passed}
use Rattle.schema.specs.declared.index.RouteDirection.{RouteDirection}
use Rattle.schema.specs.declared.index.RouteDirection.TheVariants.{Inbound, Outbound}
use Rattle.schema.specs.declared.rows.RouteImage.{RouteImage}
use Rattle.schema.specs.Rows.{route_at}
use Rattle.schema.specs.Records.{records_of, is_of}
use Rattle.route_pairs.specs.declared.Federate.{Federate}
use Rattle.route_pairs.specs.RoutePairs.{goes, halves, route_record_checks}
use Rattle.route_pairs.specs.RouteOrder.{text_of, parted, FirstFault}

-- the way of the other half
abbrev pub other_way : RouteDirection → RouteDirection
other_way Inbound = Outbound
other_way Outbound = Inbound

-- of a route's boundary a half that goes the other way is there; else the half present is named
abbrev pub unpaired_check : (IdentityPlace → List ℕ) → List ℕ → RouteImage → Check
unpaired_check text p r = need (leb 1 (halves text p r (goes (other_way r.direction)))) (UnpairedRoute r.boundary r.direction)

-- record n, where it is a route's
unfoldable pub unpaired_record_checks : (IdentityPlace → List ℕ) → List ℕ → ℕ → List Check
unpaired_record_checks text p n = cond (is_of p 23 n) (unpaired_check text p (route_at p n) ∷ []) []

-- what the day says of routes: each one's checks pass
abbrev pub DayPairs : Federate → Type 0
DayPairs f = first (run (route_record_checks (text_of f) f.pack.bytes.now) 0 (records_of f.pack.bytes.now)) ≡ passed

-- of rows in the order of their boundaries, the one at place k is the only one of its boundary
abbrev pub alone : (IdentityPlace → List ℕ) → List ℕ → List ℕ → ℕ → Bool
alone text p rows k = parted text p rows k (k + 1) && (eqb k 0 || parted text p rows k (k - 1))

-- record i is the first route without its other half, or the number of records where none is
abbrev pub FirstUnpaired : Federate → ℕ → Type 0
FirstUnpaired f i = FirstFault (unpaired_record_checks (text_of f) f.pack.bytes.now) i (records_of f.pack.bytes.now)
