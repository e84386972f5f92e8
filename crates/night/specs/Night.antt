-- The night's answer for a line: the day's checks, then the night's, then the day's numbers (document 02, Wish 2). Assumes nothing.
use Rattle.std.specs.Prelude.{ℕ, List, [], ◌∷◌, ◌++◌}
use Rattle.identity.specs.Text.{identity_text}
use Rattle.answers.specs.Checks.{Check, first, run}
use Rattle.schema.specs.Records.{records_of}
use Rattle.packing.specs.declared.PackKind.TheVariants.{Federate}
use Rattle.packing.specs.Packing.{packing_checks}
use Rattle.enclave.specs.Answer.{unless}
use Rattle.federate.specs.Records.{enclaves_of}
use Rattle.federate.specs.Federate.{federate_checks}
use Rattle.federate.specs.Answer.{federate_links}
use Rattle.night.specs.Enclaves.{night_record_checks}
use Rattle.night.specs.Halves.{unpaired_record_checks}

-- each enclave in turn, then each route of the federate
unfoldable pub night_checks : List ℕ → List ℕ → List ℕ → List Check
night_checks p batch house =
    run (night_record_checks p batch house) 0 (records_of p)
    ++ run (unpaired_record_checks (identity_text batch house) p) 0 (records_of p)

unfoldable pub night_answer : List ℕ → List ℕ → List ℕ → List ℕ
night_answer p batch house =
    unless (first (packing_checks Federate p batch house))
    (unless (first (federate_checks p batch house ++ night_checks p batch house))
    (0 ∷ enclaves_of p ∷ federate_links p batch house ∷ []))
