-- The root's entry is the least of all.
-- Assumes nothing.
use native.Mathlib.Omega.{arith}
use Rattle.open_list.proofs.Roots.{root}
use Rattle.open_list.proofs.tree.least.Goals as goal

pub returns : goal.returns
returns c =
    let tree = c.requires in
    root _ _ _ _ tree.shape tree.right c.node.ensures (omega arith)
