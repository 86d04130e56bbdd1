-- The invariant of the loop: labels, depths and map are as before, and the parents are those that the rows of the places below u give.
-- Assumes nothing.
use Rattle.scans.specs.Scans.{ParentsUpTo}
use Rattle.scans.proofs.parents.Given as goal

abbrev pub invariant-loop-u : goal.invariant-loop-u
invariant-loop-u l = ParentsUpTo l.site l.u l.initial.work l.work
