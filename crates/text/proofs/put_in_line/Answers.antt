-- No loop: the first number is put as it is, a later one after a blank. Assumes nothing.
use native.Mathlib.Omega.{arith}
use Rattle.text.proofs.Lines.{first_in_line, next_in_line}
use Rattle.text.proofs.Puts.{put_then}
use Rattle.text.proofs.put_in_line.Goals as goal

pub returns-then-i-eq0 : goal.returns-then-i-eq0
returns-then-i-eq0 c =
    rw (first_in_line c.args.i _ c.if-i-eq0.true) c.put_number.ensures

pub returns : goal.returns
returns c =
    let byte = c.put_bytes-next in
    rw (next_in_line c.args.i _ c.if-i-eq0.false) (put_then (omega arith) byte.ensures c.put_number-2.ensures)
