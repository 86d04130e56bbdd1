-- The words of the tree come back filled.
-- Assumes nothing.
use Rattle.area.specs.Part.{part}
use Rattle.open_list.proofs.Clears.{clears}
use Rattle.open_list.proofs.tree.clear.Goals as goal

pub returns : goal.returns
unfolding part
returns c =
    let fill = c.fill in
    clears _ _ _ _ c.requires c.nodes.ensures fill.auto.s fill.ensures
