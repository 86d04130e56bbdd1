-- The open list comes back cleared; the map lies beyond it. Assumes nothing.
use Rattle.area.specs.Part.{part}
use Rattle.query.proofs.Regions.{prepared}
use Rattle.query.proofs.prepare.Goals as goal

pub returns : goal.returns
unfolding part
returns c =
    let clear = c.clear in
    prepared _ _ _ c.open_at-start.ensures c.parents_at-end.ensures _ _ c.requires clear.auto.words clear.ensures
