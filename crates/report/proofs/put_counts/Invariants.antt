-- The loop's invariant: the lines of the first n counts are put, each within its room. Assumes nothing.
use Rattle.std.proofs.Common.{◌*◌, take}
use Rattle.report.specs.Printed.{count_lines, PutWithin, count_room}
use Rattle.report.proofs.put_counts.Given as goal

abbrev pub invariant-loop-n : goal.invariant-loop-n
invariant-loop-n l = PutWithin (count_room * l.n) (count_lines 0 (take l.n l.counts)) l.initial.text.items l.text.items
