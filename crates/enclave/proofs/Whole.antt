-- The whole order of the enclave's checks, as the code goes through it, and the answer at each place where it can stop. Assumes nothing.
use Rattle.std.proofs.Common.{ℕ, ◌≡◌, refl, ◌∙◌, ap, sym, List, [], ◌∷◌, ◌++◌, append_assoc}
use Rattle.std.specs.Prelude.{Ok, Err}
use Rattle.std.proofs.lemmas.List.{append-nil}
use Rattle.answers.specs.declared.Refusal.{Refusal}
use Rattle.answers.specs.Checks.{Check, first, run, Outcome, passed, answer_of}
use Rattle.answers.proofs.Laws.{first_past, first_stops, answered, not_answered}
use Rattle.schema.specs.declared.lent.Enclave as lent
use Rattle.packing.specs.Starts.{table_starts}
use Rattle.checks.specs.Image.{Image, image_of}
use Rattle.packing.specs.declared.PackKind.TheVariants.{Enclave}
use Rattle.packing.specs.Packing.{packing_checks}
use Rattle.scope_checks.specs.Scopes.{scope_checks}
use Rattle.scope_checks.specs.Links.{cycle_checks, links}
use Rattle.enclave.specs.Passes.{Pass, head_passes, table_passes, row_passes, scope_passes, reaction_list_passes, scope_list_passes, entry_passes, enclave_list_passes, list_passes, passes, pass_checks, checks_of, enclave_checks}
use Rattle.answers.specs.Numbers.{numbers}
use Rattle.enclave.specs.Answer.{answer_numbers, image_result, unless, image_answer, pack_image, enclave_answer, starts_left}

pub checks_append : (m : Image) (fs gs : List Pass) → checks_of m (fs ++ gs) ≡ checks_of m fs ++ checks_of m gs
unfolding checks_of
checks_append m [] gs = refl
checks_append m (f ∷ fs) gs = rw (checks_append m fs gs) (sym (append_assoc (pass_checks m f) (checks_of m fs) (checks_of m gs)))

-- the two groups of passes by their parts
pub row_passes_are : (m : Image) → checks_of m row_passes ≡ checks_of m head_passes ++ checks_of m table_passes
unfolding row_passes
row_passes_are m = checks_append m head_passes table_passes

pub list_passes_are : (m : Image)
    → checks_of m list_passes ≡ checks_of m reaction_list_passes ++ (checks_of m scope_list_passes ++ (checks_of m entry_passes ++ checks_of m enclave_list_passes))
unfolding list_passes
list_passes_are m =
    checks_append m reaction_list_passes (scope_list_passes ++ (entry_passes ++ enclave_list_passes))
    ∙ ap (λ x. checks_of m reaction_list_passes ++ x)
    (checks_append m scope_list_passes (entry_passes ++ enclave_list_passes) ∙ ap (λ x. checks_of m scope_list_passes ++ x) (checks_append m entry_passes enclave_list_passes))

module _ (m : Image) where
  -- the rows but for those of scopes, those of scopes, the walk of the parents, and what comes after it
  abbrev pub rows : List Check
  rows = checks_of m row_passes

  abbrev pub scopes : List Check
  scopes = run (scope_checks m) 0 (m.rows 7)

  abbrev pub cycles : List Check
  cycles = run (cycle_checks m) 0 (m.rows 7)

  abbrev pub lists : List Check
  lists = checks_of m list_passes

  scopes-and-cycles : checks_of m scope_passes ≡ scopes ++ cycles
  unfolding scope_passes checks_of pass_checks
  scopes-and-cycles = rw append-nil refl

  in-parts : enclave_checks m ≡ rows ++ (scopes ++ (cycles ++ lists))
  unfolding enclave_checks passes
  in-parts = simp (checks_append, scopes-and-cycles, append_assoc)

  -- where rows are refused, where scopes are, where the parents of one do not end, where lists are, and where all pass
  pub rows_refused : {r : Refusal} → first rows ≡ Err r → image_result m ≡ Err r
  unfolding image_result
  rows_refused e = rw (in-parts, first_stops rows (scopes ++ (cycles ++ lists)) e) refl

  past-rows : first rows ≡ passed → first (enclave_checks m) ≡ first (scopes ++ (cycles ++ lists))
  past-rows e = rw in-parts (first_past rows (scopes ++ (cycles ++ lists)) e)

  pub scopes_refused : {r : Refusal} → first rows ≡ passed → first scopes ≡ Err r → image_result m ≡ Err r
  unfolding image_result
  scopes_refused e f = rw (past-rows e, first_stops scopes (cycles ++ lists) f) refl

  past-scopes : first rows ≡ passed → first scopes ≡ passed → first (enclave_checks m) ≡ first (cycles ++ lists)
  past-scopes e f = past-rows e ∙ first_past scopes (cycles ++ lists) f

  pub cycle_refused : {r : Refusal} → first rows ≡ passed → first scopes ≡ passed → answer_of (first cycles) (links m) ≡ Err r → image_result m ≡ Err r
  unfolding image_result
  cycle_refused e f g = rw (past-scopes e f, first_stops cycles lists (not_answered (first cycles) (links m) g)) refl

  past-cycles : {n : ℕ} → first rows ≡ passed → first scopes ≡ passed → answer_of (first cycles) (links m) ≡ Ok n → first (enclave_checks m) ≡ first lists
  past-cycles e f g = past-scopes e f ∙ first_past cycles lists (answered (first cycles) (links m) g).0

  pub lists_refused : {n : ℕ} {r : Refusal} → first rows ≡ passed → first scopes ≡ passed → answer_of (first cycles) (links m) ≡ Ok n → first lists ≡ Err r → image_result m ≡ Err r
  unfolding image_result
  lists_refused e f g h = rw (past-cycles e f g, h) refl

  pub image_accepted : {n : ℕ} → first rows ≡ passed → first scopes ≡ passed → answer_of (first cycles) (links m) ≡ Ok n → first lists ≡ passed → image_result m ≡ Ok n
  unfolding image_result
  image_accepted e f g h = rw (past-cycles e f g, h, (answered (first cycles) (links m) g).1) refl

numbers-of : (o : Outcome) (n : ℕ) → answer_numbers (answer_of o n) ≡ unless o (0 ∷ n ∷ [])
numbers-of (Ok u) n = refl
numbers-of (Err r) n = refl

-- the answer for a pack that is packed, and for one that is not
module _ (p batch house : List ℕ) where
  pub packing_refused : {r : Refusal} → first (packing_checks Enclave p batch house) ≡ Err r → enclave_answer p batch house ≡ numbers r
  unfolding enclave_answer
  packing_refused e = rw e refl

  pub starts_stay : {r : Refusal} (old : List ℕ) → first (packing_checks Enclave p batch house) ≡ Err r → starts_left p batch house old ≡ old
  unfolding starts_left
  starts_stay old e = rw e refl

  pub starts_found : (old : List ℕ) → first (packing_checks Enclave p batch house) ≡ passed → starts_left p batch house old ≡ table_starts p 1
  unfolding starts_left
  starts_found old e = rw e refl

  pub pack_answer : first (packing_checks Enclave p batch house) ≡ passed → enclave_answer p batch house ≡ image_answer (pack_image p batch house)
  unfolding enclave_answer
  pack_answer e = rw e refl

  pub packed_answer : first (packing_checks Enclave p batch house) ≡ passed → enclave_answer p batch house ≡ answer_numbers (image_result (pack_image p batch house))
  unfolding enclave_answer image_answer image_result
  packed_answer e = rw e (sym (numbers-of (first (enclave_checks (pack_image p batch house))) (links (pack_image p batch house))))

-- the enclave that a pack holds has the pack's image
pub image_is : (p batch house : List ℕ) (e : lent.Enclave) → e.pack.bytes.now ≡ p → e.texts.batch.now ≡ batch → e.texts.house.now ≡ house → e.starts.now.firsts ≡ table_starts p 1 → e.own ≡ 0 → image_of e ≡ pack_image p batch house
image_is p batch house e a b c d o = rw (a, b, c, d, o) refl
