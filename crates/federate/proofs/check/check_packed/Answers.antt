-- Each place where the checks of a packed federate can stop, by its law.
use Rattle.std.proofs.Common.{◌≡◌, sym, rules, arith}
use Rattle.std.specs.Prelude.{Ok, Err}
use Rattle.answers.specs.Checks.{first, passed}
use Rattle.federate.proofs.Whole.{own, routes, found, own_refused, enclaves_refused, routes_refused, accepted}
use Rattle.federate.proofs.check.check_packed.Goals as goal

pub returns-in_err-check_own_record : goal.returns-in_err-check_own_record
returns-in_err-check_own_record c =
    let h : first (own c.args.federate.pack.bytes.now c.args.federate.texts.batch.now c.args.federate.texts.house.now) ≡ Err c.in_err-check_own_record.field-0.0 = search rules in
    grind (arith, own_refused c.args.federate.pack.bytes.now c.args.federate.texts.batch.now c.args.federate.texts.house.now h)

pub returns-in_err-links : goal.returns-in_err-links
returns-in_err-links c =
    let a : first (own c.args.federate.pack.bytes.now c.args.federate.texts.batch.now c.args.federate.texts.house.now) ≡ passed = search rules in
    let h : found c.args.federate.pack.bytes.now c.args.federate.texts.batch.now c.args.federate.texts.house.now ≡ Err c.in_err-links.field-0.0 = search rules in
    grind (arith, enclaves_refused c.args.federate.pack.bytes.now c.args.federate.texts.batch.now c.args.federate.texts.house.now a h)

pub returns-in_err-validate_federate_route_pairs : goal.returns-in_err-validate_federate_route_pairs
returns-in_err-validate_federate_route_pairs c =
    let a : first (own c.args.federate.pack.bytes.now c.args.federate.texts.batch.now c.args.federate.texts.house.now) ≡ passed = search rules in
    let b : found c.args.federate.pack.bytes.now c.args.federate.texts.batch.now c.args.federate.texts.house.now ≡ Ok c.in_ok-links.links = search rules in
    let h : first (routes c.args.federate.pack.bytes.now c.args.federate.texts.batch.now c.args.federate.texts.house.now) ≡ Err c.in_err-validate_federate_route_pairs.field-0.0 = search rules in
    grind (arith, routes_refused c.args.federate.pack.bytes.now c.args.federate.texts.batch.now c.args.federate.texts.house.now a b h)

pub returns : goal.returns
returns c =
    let a : first (own c.args.federate.pack.bytes.now c.args.federate.texts.batch.now c.args.federate.texts.house.now) ≡ passed = search rules in
    let b : found c.args.federate.pack.bytes.now c.args.federate.texts.batch.now c.args.federate.texts.house.now ≡ Ok c.in_ok-links.links = search rules in
    let h : first (routes c.args.federate.pack.bytes.now c.args.federate.texts.batch.now c.args.federate.texts.house.now) ≡ passed = search rules in
    rw c.count_enclaves-enclaves.ensures (sym (accepted c.args.federate.pack.bytes.now c.args.federate.texts.batch.now c.args.federate.texts.house.now a b h))
