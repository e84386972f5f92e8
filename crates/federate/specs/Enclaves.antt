-- The enclaves of a federate in turn (view.rs, `validate_federate_enclaves`). Assumes nothing.
use Rattle.std.specs.Prelude.{ℕ, zero, suc, ◌+◌, ◌%◌, ◌^◌, cond, List, [], ◌++◌, Result}
use Rattle.identity.specs.Text.{identity_text}
use Rattle.identity.specs.declared.IdentityPlace.{IdentityPlace}
use Rattle.answers.specs.declared.Refusal.{Refusal}
use Rattle.answers.specs.declared.id.IdKind.TheVariants as kind
use Rattle.answers.specs.Checks.{Check, first, run, answer_of}
use Rattle.schema.specs.Rows.{enclave_at}
use Rattle.checks.specs.Image.{Image}
use Rattle.checks.specs.Lists.{after_first}
use Rattle.checks.specs.Identities.{id_order_checks}
use Rattle.scope_checks.specs.Links.{links}
use Rattle.enclave.specs.Passes.{enclave_checks}
use Rattle.enclave.specs.Answer.{pack_image}
use Rattle.schema.specs.Records.{records_of, is_of}
use Rattle.federate.specs.Records.{enclaves_before, enclave_before, enclave_pack}

-- the image of the enclave of record n: that of its own pack
abbrev pub image_at : List ℕ → List ℕ → List ℕ → ℕ → Image
image_at p batch house n = pack_image (enclave_pack p n) batch house

abbrev pub id_at : List ℕ → ℕ → IdentityPlace
id_at p n = (enclave_at p n).enclave_id

-- the index shown: the span's start plus the enclave's place, as a W
abbrev pub index_from : ℕ → ℕ → ℕ
index_from start place = (start + place) % 2 ^ 32

-- its identity against that of the enclave before
abbrev pub order_checks : List ℕ → List ℕ → List ℕ → ℕ → ℕ → List Check
order_checks p batch house start n =
    after_first (enclaves_before p n) (id_order_checks (identity_text batch house) kind.Enclave (index_from start (enclaves_before p n)) (id_at p n) (id_at p (enclave_before p n)))

-- record n, where it is an enclave's: the enclave's own checks, then its identity's
unfoldable pub record_checks : List ℕ → List ℕ → List ℕ → ℕ → ℕ → List Check
record_checks p batch house start n =
    cond (is_of p 1 n) (enclave_checks (image_at p batch house n) ++ order_checks p batch house start n) []

-- the links of the enclaves before record n
unfoldable pub links_before : List ℕ → List ℕ → List ℕ → ℕ → ℕ
links_before p batch house zero = 0
links_before p batch house (suc n) = links_before p batch house n + cond (is_of p 1 n) (links (image_at p batch house n)) 0

-- the answer of the enclave of record n, and of all enclaves with their summed links
abbrev pub record_answer : List ℕ → List ℕ → List ℕ → ℕ → ℕ → Result ℕ Refusal
record_answer p batch house start n = answer_of (first (record_checks p batch house start n)) (links (image_at p batch house n))

abbrev pub enclaves_answer : List ℕ → List ℕ → List ℕ → ℕ → Result ℕ Refusal
enclaves_answer p batch house start =
    answer_of (first (run (record_checks p batch house start) 0 (records_of p))) (links_before p batch house (records_of p))
