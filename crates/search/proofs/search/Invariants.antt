-- The invariant: the queries done, whose total the allowance lasts for, and those from the round on are the search's; the round's record
-- carries the outcome of the last one done; the map is as it was, and the open list is ready. The measure is the number of queries left.
-- Assumes nothing.
use Prim.Native.Nat.{◌-◌}
use lib.ListN.{length}
use Rattle.layout.specs.Map.{problem_at}
use Rattle.model.specs.Rounds.{trace}
use Rattle.search.specs.Underway.{BetweenQueries}
use Rattle.search.proofs.search.Given as goal

abbrev pub invariant-loop-asked : goal.invariant-loop-asked
invariant-loop-asked l = BetweenQueries l.site l.allowance l.initial.work l.work l.round l.expansions l.queries

abbrev pub decreases-loop-asked : goal.decreases-loop-asked
decreases-loop-asked l = length (trace (problem_at l.site l.initial.work)) - l.queries
