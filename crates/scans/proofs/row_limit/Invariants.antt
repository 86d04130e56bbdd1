-- The invariant of the loop: best is the least sum over the arcs of u before arc k and whatever arcs `least` is the least over.
-- Assumes nothing.
use Rattle.scans.specs.Scans.{Limiting}
use Rattle.scans.proofs.row_limit.Given as goal

abbrev pub invariant-loop-k : goal.invariant-loop-k
invariant-loop-k l = Limiting l.site l.u l.k l.k-end l.least l.work l.best
