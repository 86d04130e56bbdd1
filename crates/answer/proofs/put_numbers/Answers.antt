-- The seven numbers are put over the front. Assumes nothing.
use Rattle.model.specs.Answer.{over_front}
use Rattle.answer.proofs.put_numbers.Goals as goal

pub returns : goal.returns
unfolding over_front
returns c = c.put_front.ensures
