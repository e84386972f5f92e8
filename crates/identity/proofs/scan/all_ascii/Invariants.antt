-- Every byte so far is such ASCII exactly where `all` says so.
use Rattle.std.proofs.Common.{◌≡◌, not, eqb}
use Rattle.identity.specs.Scan.{every, ascii_at}
use Rattle.identity.proofs.scan.all_ascii.Given as goal

abbrev pub invariant-loop-b : goal.invariant-loop-b
invariant-loop-b g l = l.all ≡ every (ascii_at (not (eqb g.row.ANY 0)) l.text) 0 l.b-index
