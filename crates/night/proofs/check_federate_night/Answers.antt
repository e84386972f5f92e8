-- The day's refusal; the day's yes, after which the night's own checks decide.
use Rattle.std.proofs.Common.{◌≡◌, sym, [], ◌∷◌, rules, arith}
use Rattle.std.specs.Prelude.{Err}
use Rattle.answers.specs.Checks.{first, passed}
use Rattle.answers.specs.Numbers.{numbers}
use Rattle.federate.specs.Answer.{federate_answer}
use Rattle.night.specs.Night.{night_checks}
use Rattle.night.proofs.Day.{day_refused, day_whole, day_pairs, night_refused, night_accepted}
use Rattle.night.proofs.check_federate_night.Goals as goal

pub returns-in_err-accepted : goal.returns-in_err-accepted
returns-in_err-accepted c =
    let h : numbers c.in_err-accepted.field-0.0 ≡ federate_answer c.args.pack.now c.args.batch.now c.args.house.now = c.in_err-accepted.ensures in
    let k = day_refused c.args.pack.now c.args.batch.now c.args.house.now c.in_err-accepted.field-0.0 h in
    grind (arith, k)

pub invariant_of-pack : goal.invariant_of-pack
invariant_of-pack c =
    let h : federate_answer c.args.pack.now c.args.batch.now c.args.house.now ≡ 0 ∷ c.in_ok-accepted.accepted.enclaves ∷ c.in_ok-accepted.accepted.links ∷ [] = sym c.in_ok-accepted.ensures in
    record { whole = day_whole c.args.pack.now c.args.batch.now c.args.house.now _ _ h }

pub check_rules-requires : goal.check_rules-requires
check_rules-requires c =
    let h : federate_answer c.args.pack.now c.args.batch.now c.args.house.now ≡ 0 ∷ c.in_ok-accepted.accepted.enclaves ∷ c.in_ok-accepted.accepted.links ∷ [] = sym c.in_ok-accepted.ensures in
    day_pairs c.args.pack.now c.args.batch.now c.args.house.now _ _ h

pub returns-in_err-check_rules : goal.returns-in_err-check_rules
returns-in_err-check_rules c =
    let h : federate_answer c.args.pack.now c.args.batch.now c.args.house.now ≡ 0 ∷ c.in_ok-accepted.accepted.enclaves ∷ c.in_ok-accepted.accepted.links ∷ [] = sym c.in_ok-accepted.ensures in
    let e : first (night_checks c.args.pack.now c.args.batch.now c.args.house.now) ≡ Err c.in_err-check_rules.field-0.0 = search rules in
    let k = night_refused c.args.pack.now c.args.batch.now c.args.house.now _ _ h e in
    grind (arith, k)

pub returns : goal.returns
returns c =
    let h : federate_answer c.args.pack.now c.args.batch.now c.args.house.now ≡ 0 ∷ c.in_ok-accepted.accepted.enclaves ∷ c.in_ok-accepted.accepted.links ∷ [] = sym c.in_ok-accepted.ensures in
    let e : first (night_checks c.args.pack.now c.args.batch.now c.args.house.now) ≡ passed = search rules in
    sym (night_accepted c.args.pack.now c.args.batch.now c.args.house.now _ _ h e)
