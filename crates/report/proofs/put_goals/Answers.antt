use Rattle.report.specs.Printed.{no_tally}
use Rattle.report.proofs.Goals.{no_goals, one_goal_more}
use Rattle.report.proofs.put_goals.Goals as goal

pub loop-t-init : goal.loop-t-init
loop-t-init c = no_goals _

pub loop-t-preserved : goal.loop-t-preserved
loop-t-preserved c =
    one_goal_more c.args.tally.now no_tally c.loop-t-test.true c.loop-t.invariant c.put_goal.ensures
