-- `marks::mark` meets its contract, by the tests of the place and of its mark. Assumes nothing.
use borrow.Author.Tests.{eq-eqb, ne_eqb, lt-ltb, le-ltb}
use Rattle.judge.specs.Marks.{marked, marked_by}
use Rattle.judge.proofs.marks.mark.Goals as goal

pub returns-then-places-place : goal.returns-then-places-place
unfolding marked marked_by
returns-then-places-place c = let outside = le-ltb _ _ c.if-places-place.true in record { before = simp outside; after = simp outside }

pub returns-then-marks-place-ne0 : goal.returns-then-marks-place-ne0
unfolding marked marked_by
returns-then-marks-place-ne0 c =
    let inside = lt-ltb _ _ c.if-places-place.false in
    let met = ne_eqb _ _ c.if-marks-place-ne0.true in
    record { before = simp (inside, met); after = simp (inside, met) }

pub returns : goal.returns
unfolding marked marked_by
returns c =
    let inside = lt-ltb _ _ c.if-places-place.false in
    let none = eq-eqb _ _ c.if-marks-place-ne0.false in
    record { before = simp (inside, none); after = simp (inside, none, c.mark_of.ensures) }
