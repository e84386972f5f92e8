-- The enclaves of a federate without deadlines have none. Assumes nothing.
use Prim.Native.Nat.{ℕ, ◌+◌, ◌*◌}
use mathlib.Core.Path.{sym, ◌∙◌}
use mathlib.Core.List.{List}
use native.Mathlib.Decide.{dec_le}
use native.Mathlib.Omega.{arith}
use Rattle.enclave.specs.Deadlines.{NoDeadlines}
use Rattle.enclave.proofs.Deadlines.{keeps_checks}
use Rattle.federate.specs.Records.{enclave_pack}
use Rattle.federate.specs.Deadlines.{KeepsEnclaveChecks}
use Rattle.federate.proofs.PartBytes.{many, byte_inside, byte-outside}

none_in_part : (p : List ℕ) (n : ℕ) → NoDeadlines p → NoDeadlines (enclave_pack p n)
none_in_part p n none k e =
    elim (dec_le (many p n) (k * 64 + 0)) [
      | yes g ↦ (let z = byte-outside p n k 0 g in omega arith)
      | no g ↦ none (n + k) (sym (byte_inside p n k 0 (omega arith)) ∙ e)
    ]

pub keeps_enclave_checks : KeepsEnclaveChecks
keeps_enclave_checks p batch house n none = keeps_checks (enclave_pack p n) batch house (none_in_part p n none)
