-- The invariant of the loop: labels, depths and map are as before, and the parents are those that the rows before that of u and the arcs of u
-- before arc k give. Assumes nothing.
use Rattle.scans.specs.Scans.{Parenting}
use Rattle.scans.proofs.row_parents.Given as goal

abbrev pub invariant-loop-k : goal.invariant-loop-k
invariant-loop-k l = Parenting l.n l.u l.k l.k-end l.initial.work l.work
