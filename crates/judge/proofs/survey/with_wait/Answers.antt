-- `survey::with_wait` meets its contract: the fields are what the calls give. Assumes nothing.
use Rattle.judge.specs.Survey.{with_wait}
use Rattle.judge.proofs.survey.with_wait.Goals as goal

pub returns : goal.returns
unfolding with_wait
returns c = rw (c.after-t.ensures, c.wait_refusal.ensures)
