-- The first of the hand and of the root is the first of all.
-- Assumes nothing.
use Rattle.open_list.proofs.Structure as structure
use Rattle.open_list.proofs.least.Goals as goal

pub least-root-requires : goal.least-root-requires
least-root-requires c = structure.tree_of _ _ _ c.requires

pub returns : goal.returns
returns c = structure.either_first _ _ _ _ c.requires c.least-root.ensures _ c.min.ensures
