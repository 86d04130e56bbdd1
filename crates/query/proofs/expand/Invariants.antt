-- The invariant of the loop: the arcs of the row before number j are relaxed. Assumes nothing.
use Rattle.query.specs.State.{Expanding}
use Rattle.query.proofs.expand.Given as goal

abbrev pub invariant-loop-j : goal.invariant-loop-j
invariant-loop-j l = Expanding l.n l.limit l.u l.d l.j-end l.k l.initial.hand l.initial.work l.hand l.work l.j
