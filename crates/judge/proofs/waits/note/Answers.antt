-- `waits::note` meets its contract: a wait by the test of what is noted of its place, anything else not at all. Assumes nothing.
use native.Mathlib.Omega.{arith}
use Rattle.judge.proofs.WaitLaws.{NotesWait, notes_wait, notes_none}
use Rattle.judge.proofs.waits.note.Goals.{In-Wait}
use borrow.Enum.Refused.{opened}
use Rattle.judge.proofs.waits.note.Goals as goal

-- the wait
noting : (c : In-Wait) → let a = c.args in NotesWait a.item a.noted.now c.in-Wait.wait
noting c = notes_wait c.requires c.in-Wait.is

pub returns-in_default : goal.returns-in_default
returns-in_default c = notes_none _ _ (opened c.in_default.in_default-own.keys2)

pub offset_bounds-noted-place : goal.offset_bounds-noted-place
offset_bounds-noted-place c = omega (arith, (noting c).inside)

pub bounds-noted-place : goal.bounds-noted-place
bounds-noted-place c = (noting (goal.at.bounds-noted-place c).In-Wait).inside

pub returns-then-noted-place-ne0 : goal.returns-then-noted-place-ne0
returns-then-noted-place-ne0 c = (noting (goal.at.returns-then-noted-place-ne0 c).In-Wait).again c.if-noted-place-ne0.true

pub overflow_add-noted : goal.overflow_add-noted
overflow_add-noted c = omega (arith, (noting (goal.at.overflow_add-noted c).In-Wait).small)

pub offset_bounds-noted-place-2 : goal.offset_bounds-noted-place-2
offset_bounds-noted-place-2 c = omega (arith, (noting (goal.at.offset_bounds-noted-place-2 c).In-Wait).inside)

pub bounds-noted-place-2 : goal.bounds-noted-place-2
bounds-noted-place-2 c = (noting (goal.at.bounds-noted-place-2 c).In-Wait).inside

pub returns : goal.returns
returns c = (noting (goal.at.returns c).In-Wait).first c.if-noted-place-ne0.false
