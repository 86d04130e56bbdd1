-- `waits::too_dear` meets its contract: a lane of either kind is weighed at its cost, and nothing else is too dear. Assumes nothing.
use mathlib.Core.Path.{◌∙◌}
use Rattle.model.specs.Stated.{cost_under}
use Rattle.map.proofs.Walks.{lane_said, measured_said}
use Rattle.judge.proofs.WaitLaws.{lane_bounded, lane_priced, lane_weighed, weighs_none}
use borrow.Enum.Refused.{opened}
use Rattle.judge.proofs.waits.too_dear.Goals as goal

pub exceeds-requires : goal.exceeds-requires
unfolding cost_under
exceeds-requires c = lane_bounded _ _ (lane_said c.in-Lane.is) c.requires

pub measured_cost-requires : goal.measured_cost-requires
measured_cost-requires c = lane_priced _ _ (measured_said c.in-Measured.is) c.requires

pub exceeds-requires-in-Measured : goal.exceeds-requires-in-Measured
exceeds-requires-in-Measured c =
    rw c.measured_cost.ensures (lane_bounded _ _ (measured_said c.in-Measured.is) c.requires)

pub returns-in-Lane : goal.returns-in-Lane
unfolding cost_under
returns-in-Lane c = c.exceeds.ensures ∙ lane_weighed _ _ (lane_said c.in-Lane.is)

pub returns-in-Measured : goal.returns-in-Measured
returns-in-Measured c =
    c.exceeds-in-Measured.ensures ∙ rw c.measured_cost.ensures (lane_weighed _ _ (measured_said c.in-Measured.is))

pub returns-in-Head : goal.returns-in-Head
returns-in-Head c = weighs_none _ _ _ (opened c.in-Head.in-Head-own.keys3)
