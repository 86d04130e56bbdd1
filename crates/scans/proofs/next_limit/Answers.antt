use native.Mathlib.Omega.{arith}
use Rattle.layout.proofs.Held.{has_place}
use Rattle.scans.proofs.NextLimit.{no_rows, limit_row, one_row_more, all_rows}
use Rattle.scans.proofs.next_limit.Goals as goal

pub loop-i-init : goal.loop-i-init
loop-i-init c = no_rows _ _ _

pub listed-u-requires : goal.listed-u-requires
listed-u-requires c = let pre = c.requires in has_place _ _ pre.labelled.holds _ (omega (arith, pre.places.few))

pub row_limit-best-requires : goal.row_limit-best-requires
row_limit-best-requires c = rw c.listed-u.ensures (limit_row _ _ _ c.requires _ c.loop-i-test.true)

pub loop-i-preserved : goal.loop-i-preserved
loop-i-preserved c =
    let row = rw c.listed-u.ensures at c.row_limit-best.ensures in
    one_row_more _ _ _ c.requires _ _ _ c.loop-i-test.true c.loop-i.invariant row

pub returns : goal.returns
returns c = all_rows _ _ _ c.requires _ _ c.loop-i.invariant c.loop-i-test.false
