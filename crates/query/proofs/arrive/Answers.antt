-- One store among the labels and one among the depths, and the open list lent and come back. Assumes nothing.
use Rattle.area.specs.Part.{part}
use Rattle.query.proofs.Regions.{arrive_lowers, arrived}
use Rattle.query.proofs.arrive.Goals as goal

pub lower-requires : goal.lower-requires
unfolding part
lower-requires c =
    rw (c.set_depth.ensures, c.set_label.ensures)
    (arrive_lowers _ _ _ c.open_at-start.ensures c.parents_at-end.ensures _ _ _ _ _ c.requires)

pub returns : goal.returns
unfolding part
returns c =
    let stored = c.set_depth.ensures in
    let labelled = c.set_label.ensures in
    let lower = c.lower in
    rw (stored, labelled)
    (arrived _ _ _ c.open_at-start.ensures c.parents_at-end.ensures _ _ _ _ _ c.requires _ _
    (rw (stored, labelled) at lower.auto.words) (rw (stored, labelled) at lower.ensures))
