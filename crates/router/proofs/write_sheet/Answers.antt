-- Each arm writes the sheet of its verdict's ending: none, the no_route sheet, or the route sheet.
use Rattle.router.proofs.Sheet.{written_nothing, written_no_route, written_route}
use Rattle.router.proofs.write_sheet.Goals as goal

pub returns-in-Spent : goal.returns-in-Spent
returns-in-Spent c = written_nothing c.in-Spent.is

pub returns-in-NoRoute : goal.returns-in-NoRoute
returns-in-NoRoute c = written_no_route c.in-NoRoute.is c.no_route.ensures

pub returns-in-Routed : goal.returns-in-Routed
returns-in-Routed c = written_route c.in-Routed.is c.route.ensures
