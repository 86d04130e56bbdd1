-- The labels are cleared, which leaves the open list as it was, and the open list comes back cleared; the map lies beyond both.
-- Assumes nothing.
use Rattle.area.specs.Part.{part}
use Rattle.query.proofs.Regions.{still_used, blank}
use Rattle.query.proofs.clear.Goals as goal

pub reset-requires : goal.reset-requires
unfolding part
reset-requires c =
    still_used _ _ _ c.open_at-start.ensures c.parents_at-end.ensures _ _ c.requires
    c.clear_labels.ensures c.clear_labels.auto.work

pub returns : goal.returns
unfolding part
returns c =
    let reset = c.reset in
    blank _ _ _ c.open_at-start.ensures c.parents_at-end.ensures _ _ c.requires
    c.clear_labels.ensures c.clear_labels.auto.work _ reset.auto.words reset.ensures
