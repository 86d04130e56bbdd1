-- A place in hand is let go. Any other is closed in the tree, and the hand stays as it is.
-- Assumes nothing.
use native.Mathlib.Omega.{arith}
use Rattle.open_list.specs.Keys.{empty_hand}
use Rattle.open_list.proofs.Structure as structure
use Rattle.open_list.proofs.close.Goals as goal

pub returns-then-wide-place : goal.returns-then-wide-place
unfolding empty_hand
returns-then-wide-place c = structure.lets_go _ _ _ _ _ c.requires (omega arith) (omega arith)

pub close-requires : goal.close-requires
close-requires c =
    structure.tree_place _ _ _ _ c.requires.list c.requires.place_in

pub returns : goal.returns
returns c =
    structure.tree_put _ _ _ _ _ _ c.requires.list (omega arith) c.close.ensures
