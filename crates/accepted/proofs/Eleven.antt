-- No refusal's numbers begin with 11, and so no answer. Assumes nothing.
use Prim.Native.Nat.{ℕ}
use mathlib.Core.Path.{◌≡◌}
use mathlib.Core.List.{List, [], ◌∷◌}
use native.Mathlib.Omega.{arith}
use lib.ListN.{get_or}
use Rattle.std.specs.Prelude.{Ok, Err}
use Rattle.answers.specs.Checks.{first, Outcome}
use Rattle.answers.proofs.RefusalNumbers.{not_eleven}
use Rattle.packing.specs.declared.PackKind.TheVariants.{Enclave, Federate}
use Rattle.packing.specs.Packing.{packing_checks}
use Rattle.scope_checks.specs.Links.{links}
use Rattle.enclave.specs.Passes.{enclave_checks}
use Rattle.enclave.specs.Answer.{unless, image_answer, pack_image, enclave_answer}
use Rattle.federate.specs.Records.{enclaves_of}
use Rattle.federate.specs.Federate.{federate_checks}
use Rattle.federate.specs.Answer.{federate_links, packed_answer, federate_answer}
use Rattle.accepted.specs.Eleven.{NoAnswerIsEleven}

unless_eleven : (o : Outcome) (ns : List ℕ) → (get_or ns 0 0 ≡ 11 → ⊥) → get_or (unless o ns) 0 0 ≡ 11 → ⊥
unless_eleven (Ok u) ns h = h
unless_eleven (Err r) ns h = not_eleven r

module _ (p batch house : List ℕ) where
  image_eleven : get_or (image_answer (pack_image p batch house)) 0 0 ≡ 11 → ⊥
  unfolding image_answer
  image_eleven = unless_eleven (first (enclave_checks (pack_image p batch house))) (0 ∷ links (pack_image p batch house) ∷ []) (λ e. omega arith)

  packed_eleven : get_or (packed_answer p batch house) 0 0 ≡ 11 → ⊥
  unfolding packed_answer
  packed_eleven = unless_eleven (first (federate_checks p batch house)) (0 ∷ enclaves_of p ∷ federate_links p batch house ∷ []) (λ e. omega arith)

pub no_answer_is_eleven : NoAnswerIsEleven
unfolding enclave_answer federate_answer
no_answer_is_eleven p batch house = (
  unless_eleven (first (packing_checks Enclave p batch house)) (image_answer (pack_image p batch house)) (image_eleven p batch house),
  unless_eleven (first (packing_checks Federate p batch house)) (packed_answer p batch house) (packed_eleven p batch house),
)
