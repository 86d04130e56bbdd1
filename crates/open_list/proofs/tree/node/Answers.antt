-- A node's two words make its entry.
-- Assumes nothing.
use borrow.Author.Rules.{rules}
use Rattle.open_list.specs.Tree.{node_entry}
use Rattle.open_list.proofs.tree.node.Goals as goal

pub returns : goal.returns
unfolding node_entry
returns c = search rules
