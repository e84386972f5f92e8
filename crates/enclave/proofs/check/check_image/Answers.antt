-- Each place where the passes can stop, by its law.
use Rattle.std.proofs.Common.{◌≡◌, sym, rules, arith}
use Rattle.std.specs.Prelude.{Ok, Err}
use Rattle.answers.specs.Checks.{first, passed, answer_of}
use Rattle.checks.specs.Image.{image_of}
use Rattle.scope_checks.specs.Links.{links}
use Rattle.enclave.proofs.Whole.{rows, scopes, cycles, lists, rows_refused, scopes_refused, cycle_refused, lists_refused, image_accepted}
use Rattle.enclave.proofs.check.check_image.Goals as goal

pub returns-in_err-check_rows : goal.returns-in_err-check_rows
returns-in_err-check_rows c =
    let m = image_of c.args.e.now in
    let h : first (rows m) ≡ Err c.in_err-check_rows.field-0.0 = search rules in
    let k = rows_refused m h in
    grind (arith, k)

pub returns-in_err-check_scopes : goal.returns-in_err-check_scopes
returns-in_err-check_scopes c =
    let m = image_of c.args.e.now in
    let a : first (rows m) ≡ passed = search rules in
    let h : first (scopes m) ≡ Err c.in_err-check_scopes.field-0.0 = search rules in
    let k = scopes_refused m a h in
    grind (arith, k)

pub returns-in_err-links : goal.returns-in_err-links
returns-in_err-links c =
    let m = image_of c.args.e.now in
    let a : first (rows m) ≡ passed = search rules in
    let b : first (scopes m) ≡ passed = search rules in
    let h : answer_of (first (cycles m)) (links m) ≡ Err c.in_err-links.field-0.0 = search rules in
    let k = cycle_refused m a b h in
    grind (arith, k)

pub returns-in_err-check_lists : goal.returns-in_err-check_lists
returns-in_err-check_lists c =
    let m = image_of c.args.e.now in
    let a : first (rows m) ≡ passed = search rules in
    let b : first (scopes m) ≡ passed = search rules in
    let g : answer_of (first (cycles m)) (links m) ≡ Ok c.in_ok-links.links = search rules in
    let h : first (lists m) ≡ Err c.in_err-check_lists.field-0.0 = search rules in
    let k = lists_refused m a b g h in
    grind (arith, k)

pub returns : goal.returns
returns c =
    let m = image_of c.args.e.now in
    let a : first (rows m) ≡ passed = search rules in
    let b : first (scopes m) ≡ passed = search rules in
    let g : answer_of (first (cycles m)) (links m) ≡ Ok c.in_ok-links.links = search rules in
    let h : first (lists m) ≡ passed = search rules in
    sym (image_accepted m a b g h)
