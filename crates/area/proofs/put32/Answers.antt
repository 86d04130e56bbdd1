-- The lower field, then the higher one.
use Rattle.area.proofs.Sets.{two_fields}
use Rattle.area.proofs.put32.Goals as goal

pub returns : goal.returns
returns c = two_fields _ _ _ c.put16.ensures c.put16-2.ensures
