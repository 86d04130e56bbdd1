-- `survey::ended` meets its contract, by its tests. Assumes nothing.
use borrow.Author.Tests.{eq-eqb, ne_eqb}
use Rattle.judge.specs.Survey.{at_end}
use Rattle.judge.proofs.survey.ended.Goals as goal

pub returns-then-s-ne0 : goal.returns-then-s-ne0
unfolding at_end
returns-then-s-ne0 c = simp (ne_eqb _ _ c.if-s-ne0.true)

pub returns : goal.returns
unfolding at_end
returns c = simp (eq-eqb _ _ c.if-s-ne0.false)
