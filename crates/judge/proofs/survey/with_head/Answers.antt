-- `survey::with_head` meets its contract, by the test of the count. Assumes nothing.
use mathlib.Core.Path.{◌∙◌}
use borrow.Author.Tests.{eq-eqb, ne_eqb}
use Rattle.judge.specs.Survey.{with_head}
use Rattle.judge.proofs.survey.with_head.Goals as goal

pub returns-then-s-ne0 : goal.returns-then-s-ne0
unfolding with_head
returns-then-s-ne0 c = c.after.ensures ∙ simp (ne_eqb _ _ c.if-s-ne0.true)

pub returns : goal.returns
unfolding with_head
returns c = rw (c.after-t.ensures, c.few_places.ensures) (simp (eq-eqb _ _ c.if-s-ne0.false))
