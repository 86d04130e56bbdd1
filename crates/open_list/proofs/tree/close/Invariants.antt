-- The invariant of the loop: the keys have the new one, and every node is right but node i, which is to get x, the first of its children. The
-- measure is i.
-- Assumes nothing.
use Rattle.open_list.specs.Loops.{Closing}
use Rattle.open_list.specs.Tree.{tree_keys}
use Rattle.open_list.proofs.tree.close.Given as goal

abbrev pub invariant-loop-i : goal.invariant-loop-i
invariant-loop-i l = Closing l.places l.m (tree_keys l.places l.initial.words) l.words l.x l.i

abbrev pub decreases-loop-i : goal.decreases-loop-i
decreases-loop-i l = l.i
