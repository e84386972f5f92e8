-- What an accepted federate pack's answer says, and that each of its enclaves passes its checks. Assumes nothing.
use Prim.Native.Nat.{ℕ, ◌<◌}
use mathlib.Core.Bool.{true}
use mathlib.Core.Path.{◌≡◌}
use mathlib.Core.List.{List, [], ◌∷◌, ◌++◌}
use Rattle.answers.specs.Checks.{first, passed}
use Rattle.answers.proofs.Passed.{Passes, parts, item}
use Rattle.schema.specs.Records.{records_of, is_of}
use Rattle.packing.specs.declared.PackKind.TheVariants.{Federate}
use Rattle.packing.specs.Packing.{packing_checks}
use Rattle.enclave.specs.Passes.{enclave_checks}
use Rattle.enclave.proofs.Accepted.{no_refusal}
use Rattle.federate.specs.Records.{enclaves_of}
use Rattle.federate.specs.Enclaves.{image_at, order_checks, record_checks}
use Rattle.federate.specs.Federate.{federate_checks}
use Rattle.federate.specs.Answer.{federate_links, packed_answer, federate_answer}
use Rattle.federate.proofs.Whole.{own, start, enclaves, routes, in_parts}

-- where a federate's checks pass, those of the enclave of record n do
module _ (p batch house : List ℕ) (h : first (federate_checks p batch house) ≡ passed) where
  records_pass : Passes (enclaves p batch house)
  records_pass =
      let all : Passes (own p batch house ++ (enclaves p batch house ++ routes p batch house)) = record { is = rw (in_parts p batch house) at h } in
      let past_own = (parts (own p batch house) (enclaves p batch house ++ routes p batch house) all).1 in
      (parts (enclaves p batch house) (routes p batch house) past_own).0

  pub enclave_passes : (n : ℕ) → n < records_of p → is_of p 1 n ≡ true → first (enclave_checks (image_at p batch house n)) ≡ passed
  unfolding record_checks
  enclave_passes n l e =
      let x = rw e at (item (record_checks p batch house (start p batch house)) (records_of p) records_pass n l) in
      (parts (enclave_checks (image_at p batch house n)) (order_checks p batch house (start p batch house) n) x).0.is

-- a pack accepted with s enclaves and c links passes the packing rules and the checks, and has so many
module _ (p batch house : List ℕ) (s c : ℕ) (h : federate_answer p batch house ≡ 0 ∷ s ∷ c ∷ []) where
  past_packing : (first (packing_checks Federate p batch house) ≡ passed) × (packed_answer p batch house ≡ 0 ∷ s ∷ c ∷ [])
  unfolding federate_answer
  past_packing = no_refusal (first (packing_checks Federate p batch house)) (packed_answer p batch house) (s ∷ c ∷ []) h

  past_checks : (first (federate_checks p batch house) ≡ passed) × (0 ∷ enclaves_of p ∷ federate_links p batch house ∷ [] ≡ 0 ∷ s ∷ c ∷ [])
  unfolding packed_answer
  past_checks = no_refusal (first (federate_checks p batch house)) (0 ∷ enclaves_of p ∷ federate_links p batch house ∷ []) (s ∷ c ∷ []) past_packing.1

  pub line_packed : first (packing_checks Federate p batch house) ≡ passed
  line_packed = past_packing.0

  pub line_checks : first (federate_checks p batch house) ≡ passed
  line_checks = past_checks.0

  pub line_stations : enclaves_of p ≡ s
  line_stations = let e = past_checks.1 in cc

  pub line_links : federate_links p batch house ≡ c
  line_links = let e = past_checks.1 in cc

  -- the enclave of record n
  pub station_checks : (n : ℕ) → n < records_of p → is_of p 1 n ≡ true → first (enclave_checks (image_at p batch house n)) ≡ passed
  station_checks = enclave_passes p batch house line_checks
