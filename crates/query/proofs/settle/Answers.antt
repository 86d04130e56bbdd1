-- One store where the parents will lie, and the open list lent and come back. Assumes nothing.
use Rattle.area.specs.Part.{part}
use Rattle.query.proofs.Regions.{settle_closes, settled}
use Rattle.query.proofs.settle.Goals as goal

pub close-requires : goal.close-requires
unfolding part
close-requires c =
    rw c.set_parent.ensures
    (settle_closes _ _ _ c.open_at-start.ensures c.parents_at-end.ensures _ _ _ _ c.requires)

pub returns : goal.returns
unfolding part
returns c =
    let stored = c.set_parent.ensures in
    let close = c.close in
    rw stored
    (settled _ _ _ c.open_at-start.ensures c.parents_at-end.ensures _ _ _ _ c.requires _ _
    (rw stored at close.auto.words) (rw stored at close.ensures))
