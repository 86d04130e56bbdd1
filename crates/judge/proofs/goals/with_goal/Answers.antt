-- `goals::with_goal` meets its contract. Assumes nothing.
use Rattle.judge.specs.Goals.{note}
use Rattle.judge.proofs.goals.with_goal.Goals as goal

pub returns : goal.returns
unfolding note
returns c = rw c.estimated.ensures
