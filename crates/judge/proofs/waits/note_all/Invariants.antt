-- `waits::note_all` meets its contract. The loop's invariant: what the iterator has left is left to be noted. Assumes nothing.
use Rattle.model.specs.Stated.{stated_in}
use Rattle.map.specs.Walks.{Walking}
use Rattle.judge.proofs.WaitLaws.{NotingKept}
use Rattle.judge.proofs.waits.note_all.Given as goal

abbrev pub invariant-loop-item : goal.invariant-loop-item
invariant-loop-item l = Walking (NotingKept (stated_in l.input)) l.input l.item-iterator (l.noted, l.twice)
