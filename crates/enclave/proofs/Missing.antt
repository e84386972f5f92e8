-- Each 12 of an enclave's checks tells the rows of its table. Assumes nothing.
use Prim.Native.Nat.{ℕ}
use mathlib.Core.Bool.{false, true≢false}
use mathlib.Core.Path.{◌≡◌, refl}
use mathlib.Core.List.{List, [], ◌∷◌}
use native.Mathlib.Omega.{arith}
use Rattle.std.specs.Prelude.{Ok, Err}
use Rattle.answers.specs.declared.Refusal.{Refusal}
use Rattle.answers.specs.declared.field.RowField.{RowField}
use Rattle.answers.specs.Numbers.{numbers}
use Rattle.answers.specs.declared.Refusal.TheVariants.{ReferenceOutOfBounds}
use Rattle.answers.specs.Checks.{first, Outcome}
use Rattle.answers.specs.Slots.{is_slot}
use Rattle.answers.proofs.Each.{Each, none, more, each-append, each-run, each-first, each_laws}
use Rattle.packing.specs.declared.PackKind.{PackKind}
use Rattle.packing.specs.declared.PackKind.TheVariants.{Enclave}
use Rattle.packing.specs.Packing.{identity_checks, record_checks, packing_checks}
use Rattle.checks.specs.Image.{Image}
use Rattle.scope_checks.specs.Links.{links}
use Rattle.row_checks.specs.Reactors.{reactor_checks}
use Rattle.row_checks.specs.Actions.{action_checks}
use Rattle.enclave.specs.Passes.{pass_checks, checks_of, enclave_checks}
use Rattle.enclave.specs.Answer.{unless, image_answer, pack_image, enclave_answer}
use Rattle.enclave.specs.Missing.{MissingTellsRows, TellsRows, AnswerTellsRows}
use Rattle.enclave.proofs.Opened.{the_passes, the_rows, the_lists, the_parts}
use Rattle.enclave.proofs.EachPass.{is_missing, WithoutMissing, each_initial_mode, each_bank, each_action_binding, each_other}

-- a refusal tells the rows of its table, where it is a 12
pub record Tells (rows : ℕ → ℕ) (r : Refusal) : Type 0 where
  pub is : TellsRows rows (numbers r)

told : (rows : ℕ → ℕ) (at : RowField) (g v k : ℕ) → k ≡ rows g → Tells rows (ReferenceOutOfBounds at g v k)
unfolding numbers
told rows at g v k h = record { is = λ e. (refl, h) }

not_missing : (rows : ℕ → ℕ) (r : Refusal) → is_missing r ≡ false → Tells rows r
not_missing rows r f = record { is = λ e. absurd (true≢false (rw e at f)) }

-- no refusal of the packing rules is a 12
pub packing_without : (kind : PackKind) (p batch house : List ℕ) → WithoutMissing (packing_checks kind p batch house)
unfolding packing_checks record_checks identity_checks numbers
packing_without kind p batch house = search each_laws depth 40 fits 400

module _ (m : Image) where
  other : (r : Refusal) → is_slot r ≡ false → is_missing r ≡ false → Tells m.rows r
  other r s f = not_missing m.rows r f

  reactors_tell : (i : ℕ) → Each (Tells m.rows) (reactor_checks m i)
  unfolding the_rows the_parts numbers
  reactors_tell i =
      let row = m.reactors i in
      let a = each_initial_mode m (Tells m.rows) (told m.rows) other i row.modes.0 row.initial_mode in
      let b = each_bank m (Tells m.rows) (told m.rows) other i row.bank in
      search (each_laws, told, not_missing, a, b) depth 40 fits 400

  actions_tell : (i : ℕ) → Each (Tells m.rows) (action_checks m i)
  unfolding the_rows the_parts numbers
  actions_tell i =
      let row = m.actions i in
      let a = each_action_binding m (Tells m.rows) (told m.rows) other i row.standard row.binding in
      search (each_laws, told, not_missing, a) depth 40 fits 400

  pub enclave_tells : Each (Tells m.rows) (enclave_checks m)
  unfolding enclave_checks checks_of pass_checks the_passes the_lists numbers
  enclave_tells =
      let others = each_other m (Tells m.rows) (told m.rows) other in
      each-append (each-run (λ i. more (told _ _ _ _ _ refl) none) 0 _)
      (each-append (each-run (λ i. more (not_missing _ _ refl) none) 0 _)
      (each-append (each-run reactors_tell 0 _)
      (each-append (each-run actions_tell 0 _) others)))

pub missing_tells_rows : MissingTellsRows
unfolding numbers
missing_tells_rows m at g v k e = ((each-first (enclave_tells m) e).is refl).1

-- an answer tells the rows where its refusal does, and what follows a pass
unless_tells : (rows : ℕ → ℕ) (o : Outcome) (ns : List ℕ) → ((r : Refusal) → o ≡ Err r → Tells rows r) → TellsRows rows ns → TellsRows rows (unless o ns)
unless_tells rows (Ok u) ns h k = k
unless_tells rows (Err r) ns h k = (h r refl).is

pub image_tells : (m : Image) → TellsRows m.rows (image_answer m)
unfolding image_answer
image_tells m = unless_tells m.rows (first (enclave_checks m)) (0 ∷ links m ∷ []) (λ r e. each-first (enclave_tells m) e) (λ e. absurd (omega arith))

pub answer_tells_rows : AnswerTellsRows
unfolding enclave_answer
answer_tells_rows p batch house =
    let m = pack_image p batch house in
    unless_tells m.rows (first (packing_checks Enclave p batch house)) (image_answer m)
    (λ r e. not_missing m.rows r (each-first (packing_without Enclave p batch house) e)) (image_tells m)
