-- The invariant of the loop: a uniform-cost search is under way, and count places are settled and listed, at most as many as the budget and
-- the allowance. The measure is the number of places that are not settled. Assumes nothing.
use Prim.Native.Nat.{◌-◌}
use Rattle.query.specs.State.{Searching}
use Rattle.query.proofs.query.Given as goal

abbrev pub invariant-loop-work : goal.invariant-loop-work
invariant-loop-work l = Searching l.site l.limit l.budget l.left l.initial.work l.hand l.work l.count

abbrev pub decreases-loop-work : goal.decreases-loop-work
decreases-loop-work l = l.n - l.count
