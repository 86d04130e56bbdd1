-- The invariant of the loop: the keys have the new one, and every node is right but node i, whose children x has reached. The measure is i.
-- Assumes nothing.
use Rattle.open_list.specs.Loops.{Lowering}
use Rattle.open_list.specs.Tree.{tree_keys}
use Rattle.open_list.proofs.tree.lower.Given as goal

abbrev pub invariant-loop-places : goal.invariant-loop-places
invariant-loop-places l = Lowering l.places l.m (tree_keys l.places l.initial.words) l.words l.x l.i

abbrev pub decreases-loop-places : goal.decreases-loop-places
decreases-loop-places l = l.i
