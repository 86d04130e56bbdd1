-- Where the root has no key, no place has one, and the words are a cleared list as they are. Any others are cleared.
-- Assumes nothing.
use native.Mathlib.Omega.{arith}
use Rattle.open_list.proofs.Clears.{keyless}
use Rattle.open_list.proofs.Structure.{tree_of, cleared}
use Rattle.open_list.proofs.reset.Goals as goal

pub least-root-requires : goal.least-root-requires
least-root-requires c = tree_of _ _ _ c.requires.list

pub returns-then-high : goal.returns-then-high
returns-then-high c =
    let least = c.least-root.ensures in
    let tree = tree_of _ _ _ c.requires.list in
    cleared _ _ (keyless _ _ _ _ tree least (omega (arith, c.high.ensures)) (λ i. (c.slice_known-1.given i).fits))

pub clear-requires : goal.clear-requires
clear-requires c = (tree_of _ _ _ c.requires.list).shape.room

pub returns : goal.returns
returns c = cleared _ _ c.clear.ensures
