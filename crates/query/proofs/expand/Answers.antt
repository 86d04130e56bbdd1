use Rattle.query.proofs.Arcs.{expanding_relaxes, expanding_on, expanding_ends}
use Rattle.query.proofs.expand.Goals as goal

pub relax-hand-requires : goal.relax-hand-requires
relax-hand-requires c =
    rw c.arc-x.ensures
    (expanding_relaxes _ _ _ _ _ _ c.requires _ _ _ _ _ c.loop-j.invariant c.loop-j-test.true)

pub loop-j-preserved : goal.loop-j-preserved
loop-j-preserved c =
    expanding_on _ _ _ _ _ _ c.requires _ _ _ _ _ c.loop-j.invariant c.loop-j-test.true _ _
    (rw c.arc-x.ensures at c.relax-hand.ensures)

pub returns : goal.returns
returns c = expanding_ends _ _ _ _ _ _ c.requires _ _ _ _ _ c.loop-j.invariant c.loop-j-test.false
