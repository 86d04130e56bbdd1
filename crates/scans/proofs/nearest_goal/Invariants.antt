-- The invariant of the loop: of the goals below v with the label of `first`, `goal` comes first by depth, then by number. Assumes nothing.
use Rattle.scans.specs.Scans.{Choosing}
use Rattle.scans.proofs.nearest_goal.Given as goal

abbrev pub invariant-loop-v : goal.invariant-loop-v
invariant-loop-v l = Choosing l.site l.first l.work l.goal l.v
