use native.Mathlib.Omega.{arith}
use Rattle.map_records.proofs.PutLoops.{next_fits, next_put, none_left, pairs_from, lanes_done}
use Rattle.map_records.proofs.put_lanes.Goals as goal

pub put_lane-at-requires : goal.put_lane-at-requires
put_lane-at-requires c =
    let l = c.loop-high in
    next_fits (pairs_from c.args.words.now l.high-index c.as_chunks.ensures.front (omega (arith, c.as_chunks.ensures.front_len))) l.invariant

pub loop-high-preserved : goal.loop-high-preserved
loop-high-preserved c =
    let l = c.loop-high in
    let pair = pairs_from c.args.words.now l.high-index c.as_chunks.ensures.front (omega (arith, c.as_chunks.ensures.front_len)) in
    next_put pair l.invariant c.put_lane-at.ensures

pub returns : goal.returns
returns c =
    let l = c.loop-high in
    none_left (lanes_done _ l.high-index (omega (arith, c.as_chunks.ensures.front_len))) l.invariant
