-- What the night asks of an enclave, in its order: few reactors, no scope too deep, every route logical (document 02, Wish 2). Assumes nothing.
use Rattle.std.specs.Prelude.{ℕ, ◌+◌, cond, List, [], ◌∷◌, ◌++◌, leb, eqb}
use Rattle.answers.specs.declared.Refusal.TheVariants.{TooManyReactors, ScopeTooDeep, PhysicalRoute}
use Rattle.answers.specs.Checks.{Check, need, run}
use Rattle.schema.specs.declared.rows.RouteImage.{RouteImage}
use Rattle.schema.specs.Rows.{route_at}
use Rattle.schema.specs.Records.{is_of, domain_number}
use Rattle.schema.specs.Tables.{start_of}
use Rattle.packing.specs.Starts.{table_starts}
use Rattle.checks.specs.Image.{Image}
use Rattle.scope_checks.specs.Links.{parents, links_of}
use Rattle.federate.specs.Records.{enclaves_before, enclave_pack}
use Rattle.federate.specs.Enclaves.{image_at}

-- an enclave has at most 64 reactors
unfoldable pub reactors_checks : ℕ → ℕ → List Check
reactors_checks enclave reactors = need (leb reactors 64) (TooManyReactors enclave reactors) ∷ []

-- no scope has more than 8 ancestors: the links that the day follows from it
unfoldable pub depth_checks : ℕ → Image → ℕ → List Check
depth_checks enclave m i = need (leb (links_of (parents m) (m.rows 7) i) 8) (ScopeTooDeep enclave i) ∷ []

-- every route is logical
unfoldable pub domain_checks : ℕ → (ℕ → RouteImage) → ℕ → List Check
domain_checks enclave routes i = need (eqb (domain_number (routes i).timing_domain) 0) (PhysicalRoute enclave i) ∷ []

-- an enclave by its place among the federate's, its image, and its routes whole, since an image has no domains
unfoldable pub night_enclave_checks : ℕ → Image → (ℕ → RouteImage) → List Check
night_enclave_checks enclave m routes =
    reactors_checks enclave (m.rows 2)
    ++ (run (depth_checks enclave m) 0 (m.rows 7) ++ run (domain_checks enclave routes) 0 (m.rows 23))

-- the routes of a pack whose tables begin at s, and those of the enclave of record n
abbrev pub routes_at : List ℕ → List ℕ → ℕ → RouteImage
routes_at p s i = route_at p (start_of s 23 + i)

abbrev pub enclave_routes : List ℕ → ℕ → ℕ → RouteImage
enclave_routes p n = routes_at (enclave_pack p n) (table_starts (enclave_pack p n) 1)

-- record n, where it is an enclave's, which is named by its place from 0
unfoldable pub night_record_checks : List ℕ → List ℕ → List ℕ → ℕ → List Check
night_record_checks p batch house n =
    cond (is_of p 1 n) (night_enclave_checks (enclaves_before p n) (image_at p batch house n) (enclave_routes p n)) []
