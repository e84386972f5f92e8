-- The identities before j pass.
use Rattle.answers.proofs.Loops.{Remaining}
use Rattle.packing.specs.Packing.{identity_checks}
use Rattle.packing.proofs.rules.Named.check_identities.Given as goal

abbrev pub invariant-loop-j : goal.invariant-loop-j
invariant-loop-j l =
    let r = l.self.item in
    let p = r.bytes.now in
    Remaining (identity_checks p l.self.texts.batch.now l.self.texts.house.now r.number) l.j l.count
