use native.Mathlib.Omega.{arith}
use Rattle.map_records.proofs.PutLoops.{next_fits, next_put, same_put, none_left, by_place_other, by_place_same, by_place_done}
use Rattle.map_records.proofs.put_by_place.Goals.{then-value-unless, else-value-unless}
use Rattle.map_records.proofs.put_by_place.Goals as goal

pub put-at-requires : goal.put-at-requires
put-at-requires g c =
    let l = c.loop-place in
    (omega (arith, c.requires.0), next_fits (by_place_other _ _ _ l.place c.loop-place-test.true (λ q. omega arith)) l.invariant)

pub loop-place-preserved : goal.loop-place-preserved
loop-place-preserved g c =
    let l = c.loop-place in
    let below = c.loop-place-test.true in
    elim c.if-value-unless.branch [
      | then-value-unless w ↦ rw (w.out-is, w.at-is) (next_put (by_place_other _ _ _ l.place below (λ q. omega arith)) l.invariant w.put-at.ensures)
      | else-value-unless w ↦ rw (w.out-is, w.at-is) (same_put (by_place_same _ _ _ l.place below (omega arith)) l.invariant)
    ]

pub returns : goal.returns
returns g c =
    none_left (by_place_done _ _ _ c.loop-place.place c.loop-place-test.false) c.loop-place.invariant
