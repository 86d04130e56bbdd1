-- The bit that says whether the lane is measured says which record it was.
use native.Mathlib.Omega.{arith}
use Rattle.map_records.proofs.PutRecords.{flat_lane_lem, measured_lane}
use Rattle.map_records.proofs.put_lane.Goals as goal

pub put_fields-requires : goal.put_fields-requires
put_fields-requires c =
    (omega arith, rw (flat_lane_lem _ _ c.ranges.low.fits c.if-low-eq0.true) at c.requires)

pub returns-then-low-eq0 : goal.returns-then-low-eq0
returns-then-low-eq0 c = rw (flat_lane_lem _ _ c.ranges.low.fits c.if-low-eq0.true) c.put_fields.ensures

pub put_fields-requires-2 : goal.put_fields-requires-2
put_fields-requires-2 c =
    (omega arith, rw (measured_lane _ _ c.ranges.low.fits c.if-low-eq0.false) at c.requires)

pub returns : goal.returns
returns c = rw (measured_lane _ _ c.ranges.low.fits c.if-low-eq0.false) c.put_fields-2.ensures
