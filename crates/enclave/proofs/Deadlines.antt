-- The last pass of an enclave without deadlines has no check. Assumes nothing.
use mathlib.Core.Path.{◌≡◌, refl, ◌∙◌, ap}
use mathlib.Core.List.{[], ◌∷◌, ◌++◌}
use native.Mathlib.Omega.{arith}
use Rattle.std.proofs.lemmas.List.{append-nil}
use Rattle.packing.proofs.TableRows.{no_rows}
use Rattle.checks.specs.Image.{Image}
use Rattle.list_checks.specs.Deadlines.{deadline_checks}
use Rattle.answers.specs.Checks.{run}
use Rattle.enclave.specs.Passes.{passes, over, checks_of, pass_checks, enclave_checks}
use Rattle.enclave.specs.Answer.{image_answer, pack_image, enclave_answer}
use Rattle.enclave.specs.Deadlines.{ported_passes, KeepsChecks, KeepsAnswer}
use Rattle.enclave.proofs.Opened.{the_passes}
use Rattle.enclave.proofs.Whole.{checks_append}

last_pass : passes ≡ ported_passes ++ (over 25 deadline_checks ∷ [])
unfolding the_passes
last_pass = refl

-- without its rows
nothing_last : (m : Image) → m.rows 25 ≡ 0 → checks_of m (over 25 deadline_checks ∷ []) ≡ []
unfolding checks_of pass_checks run
nothing_last m e = rw e refl

pub keeps_checks : KeepsChecks
unfolding enclave_checks
keeps_checks p batch house none =
    let m = pack_image p batch house in
    ap (checks_of m) last_pass
    ∙ checks_append m ported_passes (over 25 deadline_checks ∷ [])
    ∙ rw (nothing_last m (no_rows p 25 (omega arith) none)) (append-nil (checks_of m ported_passes))

pub keeps_answer : KeepsAnswer
unfolding enclave_answer image_answer
keeps_answer p batch house none = rw (keeps_checks p batch house none) refl
