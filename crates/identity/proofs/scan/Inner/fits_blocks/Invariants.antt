-- The first k bytes fit.
use Rattle.std.proofs.Common.{◌-◌, length, not, eqb}
use Rattle.identity.specs.Scan.{Run}
use Rattle.identity.specs.Window.{fits_at}
use Rattle.identity.proofs.scan.Inner.fits_blocks.Given as goal

abbrev pub invariant-loop-k : goal.invariant-loop-k
invariant-loop-k g l = Run (fits_at (not (eqb g.row.ANY 0)) l.self.text.now) l.self.at l.k (length l.self.text.now - 1)

abbrev pub decreases-loop-k : goal.decreases-loop-k
decreases-loop-k g l = l.rest - l.k
