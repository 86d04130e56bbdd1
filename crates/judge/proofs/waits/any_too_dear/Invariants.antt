-- `waits::any_too_dear` meets its contract. The loop's invariant: what the iterator has left is left to be weighed, and nothing was too dear so far.
-- Assumes nothing.
use mathlib.Core.Bool.{false}
use Rattle.model.specs.Stated.{stated_in}
use Rattle.map.specs.Walks.{Walking}
use Rattle.judge.specs.Waits.{Weighing}
use Rattle.judge.proofs.waits.any_too_dear.Given as goal

abbrev pub invariant-loop-item : goal.invariant-loop-item
invariant-loop-item l = Walking (Weighing (stated_in l.input)) l.input l.item-iterator false
