-- A place and its key make its entry.
-- Assumes nothing.
use borrow.Author.Rules.{rules}
use Rattle.open_list.specs.Tree.{leaf_entry}
use Rattle.open_list.proofs.tree.leaf.Goals as goal

pub returns : goal.returns
unfolding leaf_entry
returns c = search rules
