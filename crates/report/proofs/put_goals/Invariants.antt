-- The loop's invariant: the lines of the goals so far are put, each within its room. Assumes nothing.
use Rattle.std.proofs.Common.{◌*◌, take}
use Rattle.report.specs.Printed.{goal_lines, PutWithin, wide_room}
use Rattle.report.proofs.put_goals.Given as goal

abbrev pub invariant-loop-t : goal.invariant-loop-t
invariant-loop-t l = PutWithin (wide_room * l.t-index) (goal_lines (take l.t-index l.tally)) l.initial.text.items l.text.items
