-- Each of the first k bytes fits exactly where `all` says so.
use Rattle.std.proofs.Common.{◌≡◌, not, eqb}
use Rattle.identity.specs.Scan.{every}
use Rattle.identity.specs.Window.{fits_at}
use Rattle.identity.proofs.scan.Inner.fits_block.Given as goal

abbrev pub invariant-loop-k : goal.invariant-loop-k
invariant-loop-k g l = l.all ≡ every (fits_at (not (eqb g.row.ANY 0)) l.text) l.at l.k
