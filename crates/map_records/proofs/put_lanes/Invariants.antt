-- The loop's invariant: the lanes from this number on are left to be put. Assumes nothing.
use Prim.Native.Nat.{◌*◌}
use lib.ListN.{drop}
use Rattle.map_records.specs.Puts.{put_lanes}
use Rattle.map_records.proofs.PutLoops.{Putting}
use Rattle.map_records.proofs.put_lanes.Given as goal

abbrev pub invariant-loop-high : goal.invariant-loop-high
invariant-loop-high l = Putting (put_lanes l.words) (put_lanes (drop (2 * l.high-index) l.words)) l.start l.initial.out l.out l.at
