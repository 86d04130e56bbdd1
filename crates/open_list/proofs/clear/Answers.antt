-- What the tree's `clear` leaves is an open list with an empty hand.
-- Assumes nothing.
use Rattle.open_list.proofs.Structure.{cleared}
use Rattle.open_list.proofs.clear.Goals as goal

pub returns : goal.returns
returns c = cleared _ _ c.clear.ensures
