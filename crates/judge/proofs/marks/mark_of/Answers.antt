-- `marks::mark_of` meets its contract, by the test of the value. Assumes nothing.
use borrow.Author.Tests.{eq-eqb, ne_eqb}
use Rattle.judge.specs.Marks.{mark_of}
use Rattle.judge.proofs.marks.mark_of.Goals as goal

pub returns-then-value-eq0 : goal.returns-then-value-eq0
unfolding mark_of
returns-then-value-eq0 c = simp (eq-eqb _ _ c.if-value-eq0.true)

pub returns : goal.returns
unfolding mark_of
returns c = simp (ne_eqb _ _ c.if-value-eq0.false)
