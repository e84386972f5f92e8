-- Which station, scope or route each of the night's refusals names: the first in the night's order that breaks a rule (document 02, Wish 2).
-- Assumes nothing.
use Rattle.std.specs.Prelude.{ℕ, ◌<◌, ◌≤◌, ◌≡◌, List}
use Rattle.identity.specs.Text.{identity_text}
use Rattle.answers.specs.declared.Refusal.{Refusal}
use Rattle.answers.specs.declared.Refusal.TheVariants.{UnpairedRoute, PhysicalRoute, ScopeTooDeep, TooManyReactors}
use Rattle.schema.specs.declared.index.TimingDomain.TheVariants.{Physical}
use Rattle.schema.specs.Rows.{route_at}
use Rattle.schema.specs.Records.{records_of}
use Rattle.federate.specs.Records.{enclaves_before}
use Rattle.night.specs.Enclaves.{enclave_routes}
use Rattle.night_rules.specs.Rules.{Station, Route, reactors_of, scopes_of, routes_in, NoNinth, Shallow, AllLogical, HasOther, StationsKeep, RoutesKeep}

-- record n is that of the first station that breaks a rule
abbrev pub FirstStation : List ℕ → List ℕ → List ℕ → ℕ → Type 0
FirstStation p batch house n = Station p n × StationsKeep p batch house n

pub data FirstOffender (p batch house : List ℕ) : Refusal → Type 0 where
  -- it has more than 64 reactors
  many :
      (n : ℕ) → FirstStation p batch house n → 64 < reactors_of p batch house n
      → FirstOffender p batch house (TooManyReactors (enclaves_before p n) (reactors_of p batch house n))
  -- it has not, and scope i is its first with a ninth ancestor
  deep :
      (n i : ℕ) → FirstStation p batch house n → reactors_of p batch house n ≤ 64
      → i < scopes_of p batch house n → Shallow p batch house n i → (NoNinth p batch house n i → ⊥)
      → FirstOffender p batch house (ScopeTooDeep (enclaves_before p n) i)
  -- nor has it such a scope, and route i is its first that is physical
  physical :
      (n i : ℕ) → FirstStation p batch house n → reactors_of p batch house n ≤ 64 → Shallow p batch house n (scopes_of p batch house n)
      → i < routes_in p batch house n → AllLogical p n i → (enclave_routes p n i).timing_domain ≡ Physical
      → FirstOffender p batch house (PhysicalRoute (enclaves_before p n) i)
  -- all stations keep the rules, and record n is the first route without its other half
  lone :
      (n : ℕ) → StationsKeep p batch house (records_of p) → Route p n
      → RoutesKeep (identity_text batch house) p n → (HasOther (identity_text batch house) p n → ⊥)
      → FirstOffender p batch house (UnpairedRoute (route_at p n).boundary (route_at p n).direction)
