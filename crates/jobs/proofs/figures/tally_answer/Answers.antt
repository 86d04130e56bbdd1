-- What is no route leaves the tallies. A route's sheet holds the goal in its last two bytes, and the route can be added there. Assumes nothing.
use mathlib.Core.Path.{◌≡◌}
use Rattle.jobs.specs.Steps.{last_on}
use Rattle.jobs.proofs.Tallying.{tallies_none, tallies_route}
use Rattle.jobs.proofs.figures.tally_answer.Goals.{After-from-goal}
use Rattle.jobs.proofs.figures.tally_answer.Goals as goal

-- the goal is the last place on the sheet
at_last : (c : After-from-goal) → let a = c.args in c.from-goal.result ≡ last_on a.sheet.now a.a.sheet_bytes
unfolding last_on
at_last c = rw (c.from-goal.ensures, c.u16_at.ensures)

pub returns-then-a-ne-FOUND : goal.returns-then-a-ne-FOUND
returns-then-a-ne-FOUND c = tallies_none c.if-a-ne-FOUND.true

pub add_route-requires : goal.add_route-requires
add_route-requires c =
    rw (at_last (goal.at.add_route-requires c).After-from-goal) (c.requires.addable c.if-a-ne-FOUND.false)

pub returns : goal.returns
returns c = tallies_route c.if-a-ne-FOUND.false (at_last (goal.at.returns c).After-from-goal) c.add_route.ensures
