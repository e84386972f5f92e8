-- Converting twice, and taking what was given; the checks of a pack are those of its turned pack. Assumes nothing.
use Rattle.std.proofs.Common.{ℕ, zero, suc, ◌+◌, ◌/◌, ◌<◌, ◌≤◌, true, List, ltb, leb, length, ◌≡◌, refl, ◌∙◌, ap, ◌%◌, arith}
use borrow.Author.Tests.{eqb-true}
use Rattle.identity.proofs.Tests.{both}
use Rattle.answers.specs.Checks.{Check, first, run}
use Rattle.answers.proofs.Passed.{Passes, test}
use Rattle.schema.specs.Bytes.{Whole}
use Rattle.packing.specs.declared.PackKind.{PackKind}
use Rattle.packing.specs.Packing.{pack_fits}
use Rattle.convert.specs.Turned.{turned}
use Rattle.convert.specs.Convert.{shape_checks, convert_checks}
use Rattle.convert.specs.Promises.{Taken, Twice, GivesTakes}
use Rattle.convert.proofs.Bytes.{length-turned, turned-turned}
use Rattle.convert.proofs.Clean.{clean_kept, place_kept}

whole : (p : List ℕ) → pack_fits p ≡ true → Whole p
whole p e =
    let a = both (ltb 0 (length p)) _ e in
    let b = both (leb (length p) 4194304) _ a.1 in
    eqb-true (length p % 64) 0 b.1

taken_whole : (kind : PackKind) (p : List ℕ) (room : ℕ) → Taken kind p room → Whole p
unfolding convert_checks
taken_whole kind p room e =
    let w : Passes (convert_checks kind p room) = record { is = e } in
    whole p (test w)

-- runs of equal checks are equal
run_same : (f g : ℕ → List Check) (i k : ℕ) → ((j : ℕ) → i ≤ j → j < i + k → f j ≡ g j) → run f i k ≡ run g i k
unfolding run
run_same f g i zero h = refl
run_same f g i (suc k) h =
    let here : f i ≡ g i = h i (omega arith) (omega arith) in
    let behind : run f (suc i) k ≡ run g (suc i) k = run_same f g (suc i) k (λ j l m. h j (omega arith) (omega arith)) in
    rw (here, behind) refl

-- 3 and 4 of a pack are those of its turned pack
pub shapes_kept : (kind : PackKind) (p : List ℕ) → run (shape_checks kind (turned p)) 0 (length p / 64) ≡ run (shape_checks kind p) 0 (length p / 64)
unfolding shape_checks
shapes_kept kind p =
    run_same (shape_checks kind (turned p)) (shape_checks kind p) 0 (length p / 64)
    (λ j l h. rw (place_kept kind p j (omega arith), clean_kept p j (omega arith)) refl)

pub twice : Twice
twice kind p room e = turned-turned p (taken_whole kind p room e)

-- the checks of the turned pack are those of the pack
checks_turned : (kind : PackKind) (p : List ℕ) (room : ℕ) → Whole p → convert_checks kind (turned p) room ≡ convert_checks kind p room
unfolding convert_checks
checks_turned kind p room w = rw (length-turned p, turned-turned p w, shapes_kept kind p) refl

pub gives_takes : GivesTakes
gives_takes kind p room e = ap first (checks_turned kind p room (taken_whole kind p room e)) ∙ e
