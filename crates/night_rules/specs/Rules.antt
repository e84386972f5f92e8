-- The night's rules in plain words (document 02, Wish 2). Assumes nothing.
use Rattle.std.specs.Prelude.{ℕ, ◌<◌, ◌≤◌, ◌≡◌, List, None}
use Rattle.identity.specs.declared.IdentityPlace.{IdentityPlace}
use Rattle.identity.specs.Text.{identity_text}
use Rattle.schema.specs.declared.index.TimingDomain.TheVariants.{Logical}
use Rattle.schema.specs.Bytes.{byte_of}
use Rattle.schema.specs.Rows.{route_at}
use Rattle.schema.specs.Records.{records_of}
use Rattle.scope_checks.specs.Links.{parents}
use Rattle.federate.specs.Enclaves.{image_at}
use Rattle.accepted.specs.Chains.{ancestor}
use Rattle.night.specs.Enclaves.{enclave_routes}

-- record n of the line is a station's; a route's
abbrev pub Station : List ℕ → ℕ → Type 0
Station p n = (n < records_of p) × (byte_of p n 0 ≡ 1)

abbrev pub Route : List ℕ → ℕ → Type 0
Route p n = (n < records_of p) × (byte_of p n 0 ≡ 23)

-- how many reactors, scopes and routes the station of record n has
abbrev pub reactors_of : List ℕ → List ℕ → List ℕ → ℕ → ℕ
reactors_of p batch house n = (image_at p batch house n).rows 2

abbrev pub scopes_of : List ℕ → List ℕ → List ℕ → ℕ → ℕ
scopes_of p batch house n = (image_at p batch house n).rows 7

abbrev pub routes_in : List ℕ → List ℕ → List ℕ → ℕ → ℕ
routes_in p batch house n = (image_at p batch house n).rows 23

-- its scope i has at most 8 ancestors: there is no ninth
abbrev pub NoNinth : List ℕ → List ℕ → List ℕ → ℕ → ℕ → Type 0
NoNinth p batch house n i = ancestor (parents (image_at p batch house n)) 9 i ≡ None

-- so have its scopes below k; and its routes below k are logical
abbrev pub Shallow : List ℕ → List ℕ → List ℕ → ℕ → ℕ → Type 0
Shallow p batch house n k = (i : ℕ) → i < k → NoNinth p batch house n i

abbrev pub AllLogical : List ℕ → ℕ → ℕ → Type 0
AllLogical p n k = (i : ℕ) → i < k → (enclave_routes p n i).timing_domain ≡ Logical

-- the station of record n keeps the rules
pub record StationRules (p batch house : List ℕ) (n : ℕ) : Type 0 where
  pub few : reactors_of p batch house n ≤ 64
  pub shallow : Shallow p batch house n (scopes_of p batch house n)
  pub logical : AllLogical p n (routes_in p batch house n)

-- the route of record n has its other half somewhere in the line: a route whose boundary is the same text, and which goes the other way
abbrev pub HasOther : (IdentityPlace → List ℕ) → List ℕ → ℕ → Type 0
HasOther text p n =
    (k : ℕ) × Route p k
    × (text (route_at p k).boundary ≡ text (route_at p n).boundary)
    × ((route_at p k).direction ≡ (route_at p n).direction → ⊥)

-- the stations, and the routes, before record k keep the rules
abbrev pub StationsKeep : List ℕ → List ℕ → List ℕ → ℕ → Type 0
StationsKeep p batch house k = (n : ℕ) → n < k → Station p n → StationRules p batch house n

abbrev pub RoutesKeep : (IdentityPlace → List ℕ) → List ℕ → ℕ → Type 0
RoutesKeep text p k = (n : ℕ) → n < k → Route p n → HasOther text p n

-- all of the line do
pub record NightRules (p batch house : List ℕ) : Type 0 where
  pub stations : StationsKeep p batch house (records_of p)
  pub routes : RoutesKeep (identity_text batch house) p (records_of p)
