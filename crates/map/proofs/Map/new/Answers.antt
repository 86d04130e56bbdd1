-- `Map::new` meets its contract: each return goes by the test of the limits. Assumes nothing.
use Rattle.map.proofs.Sizes.{none-given, map-given}
use Rattle.map.proofs.Map.new.Goals as goal

pub returns-then-places-arcs : goal.returns-then-places-arcs
returns-then-places-arcs c = none-given _ _ c.if-places-arcs.true

pub returns : goal.returns
returns c = map-given _ _ c.if-places-arcs.false
