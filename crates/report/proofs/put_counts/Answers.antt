use Rattle.report.proofs.Counts.{no_counts, one_count_more}
use Rattle.report.proofs.put_counts.Goals as goal

pub loop-n-init : goal.loop-n-init
loop-n-init c = no_counts _

pub loop-n-preserved : goal.loop-n-preserved
loop-n-preserved c = one_count_more c.args.counts.now c.loop-n-test.true c.loop-n.invariant c.put_count.ensures
