-- The figures are put over the front. Assumes nothing.
use Rattle.model.specs.Answer.{over_front}
use Rattle.day.proofs.host.tell.Goals as goal

pub returns : goal.returns
unfolding over_front
returns c = record { gives = c.status_number.ensures; leaves = rw (← c.figures_of.ensures) c.put_front.ensures }
