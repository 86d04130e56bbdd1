use Rattle.sheet_writer.proofs.Counting.{counting_begins, counting_place, counting_goes_on, counting_ends}
use Rattle.sheet_writer.proofs.arcs_to.Goals as goal

pub loop-u-init : goal.loop-u-init
loop-u-init c = counting_begins c.parent-u.result c.requires c.parent-u.ensures

pub parent-u-requires-in-loop-u : goal.parent-u-requires-in-loop-u
parent-u-requires-in-loop-u c =
    (counting_place c.loop-u.invariant c.requires c.loop-u-test.true).0

pub loop-u-preserved : goal.loop-u-preserved
loop-u-preserved c =
    counting_goes_on c.loop-u.invariant c.parent-u-in-loop-u.result c.loop-u-test.true c.parent-u-in-loop-u.ensures

pub returns : goal.returns
returns c = counting_ends c.loop-u.invariant c.loop-u-test.false
