use native.Mathlib.Omega.{arith}
use Rattle.text.proofs.Decimals.{short_64}
use Rattle.text.proofs.Lines.{none-begun, begun_more, line_ended}
use Rattle.text.proofs.put_wide_line.Goals as goal

pub loop-i-init : goal.loop-i-init
loop-i-init c = none-begun

pub put_in_line-end-requires : goal.put_in_line-end-requires
put_in_line-end-requires c =
    omega (arith, short_64 _ (c.type_inv.numbers c.loop-i.i).fits)

pub loop-i-preserved : goal.loop-i-preserved
loop-i-preserved c =
    let l = c.loop-i in
    let short = short_64 _ (c.type_inv.numbers l.i).fits in
    begun_more l.invariant (omega arith) (omega arith) short (omega arith) c.put_in_line-end.ensures

pub returns : goal.returns
returns c = line_ended c.loop-i.invariant (omega arith) (omega arith) c.put_bytes.ensures
