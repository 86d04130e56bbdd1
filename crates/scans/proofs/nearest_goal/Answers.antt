use Rattle.scans.proofs.Goals.{choosable, choosing_step, choosing_end}
use Rattle.scans.proofs.nearest_goal.Goals as goal

pub nearer-goal-requires : goal.nearer-goal-requires
nearer-goal-requires c = choosable _ _ _ _ _ c.loop-v.invariant c.loop-v-test.true

pub loop-v-preserved : goal.loop-v-preserved
loop-v-preserved c = rw c.nearer-goal.ensures (choosing_step _ _ _ _ _ c.loop-v.invariant c.loop-v-test.true)

pub returns : goal.returns
returns c = choosing_end _ _ _ _ _ c.loop-v.invariant c.loop-v-test.false
