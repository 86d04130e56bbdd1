-- The loop's invariant: `entries` of the entries stand before the place of the walk, and the others from there on.
use Rattle.jobs.proofs.EntryLaws.{CountLeft}
use Rattle.jobs.proofs.entries.count.Given as goal

abbrev pub invariant-loop-record : goal.invariant-loop-record
invariant-loop-record l = CountLeft l.input l._record-iterator l.entries
