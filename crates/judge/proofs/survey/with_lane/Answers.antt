-- `survey::with_lane` meets its contract: the fields are what the calls give. Assumes nothing.
use Rattle.judge.specs.Survey.{with_lane}
use Rattle.judge.proofs.survey.with_lane.Goals as goal

pub returns : goal.returns
unfolding with_lane
returns c = rw (c.after-t.ensures, c.lane_refusal.ensures)
