-- No loop: each test is one of the definition's. Assumes nothing.
use mathlib.Core.Path.{sym}
use native.Mathlib.Omega.{arith}
use Rattle.sheet_reader.proofs.Records.{no_route_unfit, no_route_beyond, no_route_sheet_lem}
use Rattle.sheet_reader.proofs.read_no_route.Goals as goal

pub returns-then-body-ne2 : goal.returns-then-body-ne2
returns-then-body-ne2 c = sym (no_route_unfit c.args.body.now c.if-body-ne2.true)

pub returns-then-from-ge-PLACES : goal.returns-then-from-ge-PLACES
returns-then-from-ge-PLACES c = sym (no_route_beyond c.args.body.now c.if-body-ne2.false (omega arith))

pub returns : goal.returns
returns c =
    no_route_sheet_lem c.args.body.now c.u16_at-start.result c.if-body-ne2.false c.u16_at-start.ensures (omega arith)
