-- `survey::with_job` meets its contract: the fields are what the calls give. Assumes nothing.
use Rattle.judge.specs.Survey.{with_job}
use Rattle.judge.proofs.survey.with_job.Goals as goal

pub returns : goal.returns
unfolding with_job
returns c = rw (c.after-t.ensures, c.headless.ensures)
