-- The loop's invariant: the numbers from this place on are left to be put. Assumes nothing.
use lib.ListN.{drop}
use Rattle.map_records.specs.Puts.{put_by_place}
use Rattle.map_records.proofs.PutLoops.{Putting}
use Rattle.map_records.proofs.put_by_place.Given as goal

abbrev pub invariant-loop-place : goal.invariant-loop-place
invariant-loop-place g l =
    let kind = g.R.PlaceRecord.kind in
    Putting (put_by_place kind l.unless 0 l.words) (put_by_place kind l.unless l.place (drop l.place l.words)) l.start l.initial.out l.out l.at
