-- What is prepared is what placing asks; the rows that are placed are sorted. Assumes nothing.
use mathlib.Core.Path.{◌∙◌}
use lib.ListN.{length}
use Rattle.load.proofs.Known.{Known, known}
use Rattle.map_writer.proofs.Orders.{can_place, has_rows, ordered}
use Rattle.map_writer.proofs.order.Goals.{After-shared_slice_known-1}
use Rattle.map_writer.proofs.order.Goals as goal

-- what acceptance says
facts : (c : After-shared_slice_known-1) → let a = c.args in Known a.input.now a.job (length a.work.now)
facts c = known _ _ _ c.requires

pub place_records-requires : goal.place_records-requires
place_records-requires c =
    let known = (facts (goal.at.place_records-requires c).After-shared_slice_known-1) in
    let said = c.factors-factors.ensures ∙ known.states.factors.are in
    can_place _ _ _ known _ c.prepare.auto.work c.prepare.ensures said

pub sort_rows-requires : goal.sort_rows-requires
sort_rows-requires c =
    let placed = has_rows _ _ _ (facts (goal.at.sort_rows-requires c).After-shared_slice_known-1) _ c.prepare.auto.work c.prepare.ensures _ c.place_records.auto.work in
    placed c.place_records.ensures

pub returns : goal.returns
returns c =
    let placed = ordered _ _ _ (facts (goal.at.returns c).After-shared_slice_known-1) _ c.prepare.auto.work c.prepare.ensures _ c.place_records.auto.work in
    placed c.place_records.ensures _ c.sort_rows.ensures
