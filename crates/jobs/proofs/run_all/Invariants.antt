-- The loop's invariant: the entries before the place of the walk have been run, and the others are left; all that is lent keeps its length.
use Rattle.jobs.proofs.Running.{Walked}
use Rattle.jobs.proofs.run_all.Given as goal

abbrev pub invariant-loop-record : goal.invariant-loop-record
invariant-loop-record l =
    Walked l.input l.initial.work l.initial.sheet l.initial.routes l.initial.costs l.record-iterator l.day l.buffer l.work l.sheet l.routes l.costs
