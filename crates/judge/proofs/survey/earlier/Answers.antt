-- `survey::earlier` meets its contract, case by case.
use borrow.Author.Tests.{lt-ltb, le-ltb}
use Rattle.judge.specs.Numbers.{earlier}
use Rattle.judge.proofs.survey.earlier.Goals as goal

pub returns-in-None-default : goal.returns-in-None-default
unfolding earlier
returns-in-None-default c = rw c.in-None-default.is-0

pub returns-in-Some-None : goal.returns-in-Some-None
unfolding earlier
returns-in-Some-None c = rw (c.in-Some-None.is-0, c.in-Some-None.is-1)

pub returns-then-number : goal.returns-then-number
unfolding earlier
returns-then-number c =
    rw (c.in-Some-Some.is-0, c.in-Some-Some.is-1, ← c.number.ensures, ← c.number-in-Some-Some.ensures) (simp (lt-ltb _ _ c.if-number.true))

pub returns-else-number : goal.returns-else-number
unfolding earlier
returns-else-number c =
    rw (c.in-Some-Some.is-0, c.in-Some-Some.is-1, ← c.number.ensures, ← c.number-in-Some-Some.ensures) (simp (le-ltb _ _ c.if-number.false))
