use Rattle.layout.proofs.Held.{few_places_lem, map_room}
use Rattle.scans.proofs.ParentLaws.{no_rows, parents_row, one_row_more, all_rows}
use Rattle.scans.proofs.parents.Goals as goal

pub clear_parents-requires : goal.clear_parents-requires
clear_parents-requires c = let holds = c.requires.labelled.holds in (few_places_lem _ _ holds, map_room _ _ holds)

pub loop-u-init : goal.loop-u-init
loop-u-init c =
    no_rows _ _ _ c.requires c.clear_parents.ensures

pub row_parents-requires : goal.row_parents-requires
row_parents-requires c = parents_row _ _ _ _ c.loop-u-test.true c.loop-u.invariant

pub loop-u-preserved : goal.loop-u-preserved
loop-u-preserved c =
    one_row_more _ _ _ _ _ c.loop-u-test.true c.loop-u.invariant c.row_parents.ensures

pub returns : goal.returns
returns c =
    let kept = c.clear_parents.ensures.kept in
    all_rows _ _ _ _ _ kept c.loop-u.invariant c.loop-u-test.false
