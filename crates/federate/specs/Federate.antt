-- The checks of a federate in their order (document 01, "Line"; view.rs, `validate_federate_const`). Assumes nothing.
use Rattle.std.specs.Prelude.{ℕ, ◌^◌, List, [], ◌∷◌, ◌++◌, eqb}
use Rattle.identity.specs.declared.IdentityPlace.{IdentityPlace}
use Rattle.identity.specs.Text.{identity_text}
use Rattle.range.specs.Range.{checked_end}
use Rattle.answers.specs.declared.Refusal.TheVariants.{RangeOutOfBounds, OwnershipMismatch}
use Rattle.answers.specs.Fields.{row_field}
use Rattle.answers.specs.declared.field.Field.TheVariants as field
use Rattle.answers.specs.declared.id.IdKind.TheVariants as kind
use Rattle.answers.specs.Checks.{Check, need, run}
use Rattle.schema.specs.declared.rows.FederateImage.{FederateImage}
use Rattle.schema.specs.Rows.{federate_at}
use Rattle.schema.specs.Records.{records_of}
use Rattle.checks.specs.Refs.{end_within}
use Rattle.checks.specs.Identities.{id_check}
use Rattle.federate.specs.Records.{enclaves_of}
use Rattle.federate.specs.Enclaves.{record_checks}
use Rattle.route_pairs.specs.RoutePairs.{route_record_checks}

-- the enclaves' span ends, and not past the keys of enclaves ("Enclave key domain", table 255)
abbrev pub span_check : FederateImage → Check
span_check f =
    let span = f.enclaves.0 in
    need (end_within (checked_end span.start span.len) (2 ^ 32)) (RangeOutOfBounds (row_field 0 0 field.Enclaves) 255 span.start span.len)

-- id, target, runtime, span
unfoldable pub metadata_checks : (IdentityPlace → List ℕ) → FederateImage → List Check
metadata_checks text f =
    id_check text kind.Federate 0 f.id
    ∷ id_check text kind.Target 0 f.target
    ∷ id_check text kind.Runtime 0 f.runtime
    ∷ span_check f
    ∷ []

-- as many enclaves as the span has
abbrev pub count_check : FederateImage → ℕ → Check
count_check f enclaves = need (eqb enclaves f.enclaves.0.len) (OwnershipMismatch (row_field 0 0 field.Enclaves))

-- the federate's own record, which has so many enclaves
abbrev pub own_checks : (IdentityPlace → List ℕ) → FederateImage → ℕ → List Check
own_checks text f enclaves = metadata_checks text f ++ (count_check f enclaves ∷ [])

-- the federate, each enclave, each route
unfoldable pub federate_checks : List ℕ → List ℕ → List ℕ → List Check
federate_checks p batch house =
    let f = federate_at p 0 in
    metadata_checks (identity_text batch house) f
    ++ ((count_check f (enclaves_of p) ∷ [])
    ++ (run (record_checks p batch house f.enclaves.0.start) 0 (records_of p)
    ++ run (route_record_checks (identity_text batch house) p) 0 (records_of p)))
