-- The invariant of the loop: best is the least sum over the rows of the first i places of the list. Assumes nothing.
use Rattle.scans.specs.Scans.{LimitUpTo}
use Rattle.scans.proofs.next_limit.Given as goal

abbrev pub invariant-loop-i : goal.invariant-loop-i
invariant-loop-i l = LimitUpTo l.site l.count l.i l.best l.work
