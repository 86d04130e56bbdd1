-- Each return goes by the tests that led there.
use borrow.Author.Tests.{lt-ltb, le-ltb}
use Rattle.model.specs.Refusals.{short_work, short_sheet, room_rows, first_that_holds}
use Rattle.router.proofs.room.Goals as goal

pub returns-then-words : goal.returns-then-words
unfolding room_rows first_that_holds short_work short_sheet
returns-then-words c = rw (← c.words.ensures) (simp (lt-ltb _ _ c.if-words.true))

pub returns-then-bytes : goal.returns-then-bytes
unfolding room_rows first_that_holds short_work short_sheet
returns-then-bytes c =
    let words = c.words.ensures in
    rw (← words, ← c.bytes.ensures) (simp (le-ltb _ _ c.if-words.false, lt-ltb _ _ c.if-bytes.true))

pub returns : goal.returns
unfolding room_rows first_that_holds short_work short_sheet
returns c =
    let words = c.words.ensures in
    rw (← words, ← c.bytes.ensures) (simp (le-ltb _ _ c.if-words.false, le-ltb _ _ c.if-bytes.false))
