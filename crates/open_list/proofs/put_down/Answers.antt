-- An empty hand adds nothing to the tree. What is in hand has no key in the tree, so that it may be lowered there.
-- Assumes nothing.
use native.Mathlib.Omega.{arith}
use Rattle.open_list.proofs.Structure as structure
use Rattle.open_list.proofs.put_down.Goals as goal

pub returns-then-key : goal.returns-then-key
returns-then-key c = structure.idle_put _ _ _ c.requires (omega (arith, c.high-key.ensures))

pub lower-requires : goal.lower-requires
lower-requires c =
    let key = c.high-key.ensures in
    rw (c.wide.ensures.same, c.low.ensures, key) (structure.hand_lowers _ _ _ c.requires (omega (arith, key)))
