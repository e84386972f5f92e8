-- The enclaves of a federate without deadlines are checked as those of a pack that has no table for them. Assumes nothing.
use Rattle.std.specs.Prelude.{ℕ, ◌≡◌, List}
use Rattle.enclave.specs.Passes.{checks_of, enclave_checks}
use Rattle.enclave.specs.Deadlines.{NoDeadlines, ported_passes}
use Rattle.federate.specs.Enclaves.{image_at}

-- the checks of each of its enclaves are those of the passes of `validate_enclave_const` alone
abbrev pub KeepsEnclaveChecks : Type 0
KeepsEnclaveChecks =
    (p batch house : List ℕ) (n : ℕ) → NoDeadlines p
    → enclave_checks (image_at p batch house n) ≡ checks_of (image_at p batch house n) ported_passes
