-- The hand takes the place that it had, or one that comes before it and is not in the tree: then what was in hand goes into the tree. Any other
-- place is lowered in the tree.
-- Assumes nothing.
use native.Mathlib.Omega.{arith}
use Rattle.open_list.proofs.Structure as structure
use Rattle.open_list.proofs.lower.Goals as goal

pub pair-x-requires : goal.pair-x-requires
pair-x-requires c = structure.place_fits _ _ _ _ c.requires.list c.requires.place_in

pub returns-then-wide-place : goal.returns-then-wide-place
returns-then-wide-place c =
    structure.takes_again _ _ _ _ _ _ c.requires c.pair-x.ensures (omega arith)

pub key-k-requires : goal.key-k-requires
key-k-requires c =
    structure.tree_place _ _ _ _ c.requires.list c.requires.place_in

pub returns-then-k : goal.returns-then-k
returns-then-k c =
    let pair = c.pair-x.ensures in
    let key = c.key-k.ensures in
    structure.takes_over _ _ _ _ _ _ c.requires pair _ c.put_down.ensures (omega arith) (omega (arith, key))

pub lower-requires : goal.lower-requires
lower-requires c =
    structure.tree_lowers _ _ _ _ _ c.requires (omega arith)

pub returns : goal.returns
returns c =
    structure.tree_put _ _ _ _ _ _ c.requires.list (omega arith) c.lower.ensures
