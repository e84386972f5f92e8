-- The answer of the federate check: document 01's number and values; 0, the enclaves and the summed links for acceptance. Assumes nothing.
use Rattle.std.specs.Prelude.{ℕ, List, [], ◌∷◌, Result, Ok, Err}
use Rattle.answers.specs.declared.Refusal.{Refusal}
use Rattle.answers.specs.Numbers.{numbers}
use Rattle.answers.specs.Checks.{first, answer_of}
use Rattle.packing.specs.declared.PackKind.TheVariants.{Federate}
use Rattle.packing.specs.Packing.{packing_checks}
use Rattle.schema.specs.Records.{records_of}
use Rattle.enclave.specs.Answer.{unless}
use Rattle.federate.specs.declared.FederateAccepted.{FederateAccepted}
use Rattle.federate.specs.Records.{enclaves_of}
use Rattle.federate.specs.Enclaves.{links_before}
use Rattle.federate.specs.Federate.{federate_checks}

-- the numbers of an answer
abbrev pub federate_numbers : Result FederateAccepted Refusal → List ℕ
federate_numbers (Ok a) = 0 ∷ a.enclaves ∷ a.links ∷ []
federate_numbers (Err r) = numbers r

-- the links of all enclaves
abbrev pub federate_links : List ℕ → List ℕ → List ℕ → ℕ
federate_links p batch house = links_before p batch house (records_of p)

-- what is answered of a pack that is packed
unfoldable pub federate_result : List ℕ → List ℕ → List ℕ → Result FederateAccepted Refusal
federate_result p batch house =
    answer_of (first (federate_checks p batch house)) (record { enclaves = enclaves_of p; links = federate_links p batch house })

-- the answer for a pack that is packed, and for any: packing first
unfoldable pub packed_answer : List ℕ → List ℕ → List ℕ → List ℕ
packed_answer p batch house = unless (first (federate_checks p batch house)) (0 ∷ enclaves_of p ∷ federate_links p batch house ∷ [])

unfoldable pub federate_answer : List ℕ → List ℕ → List ℕ → List ℕ
federate_answer p batch house = unless (first (packing_checks Federate p batch house)) (packed_answer p batch house)
