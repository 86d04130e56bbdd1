-- Each return goes by the tests that led there.
use borrow.Author.Tests.{lt-ltb, le-ltb}
use Rattle.model.specs.Refusals.{short_work, first_that_holds}
use Rattle.map_writer.specs.Call.{short_output, output_rows}
use Rattle.map_writer.proofs.room.Goals as goal

pub returns-then-words : goal.returns-then-words
unfolding output_rows first_that_holds short_work short_output
returns-then-words c = rw (← c.words.ensures) (simp (lt-ltb _ _ c.if-words.true))

pub returns-then-bytes-input : goal.returns-then-bytes-input
unfolding output_rows first_that_holds short_work short_output
returns-then-bytes-input c = rw (← c.words.ensures) (simp (le-ltb _ _ c.if-words.false, lt-ltb _ _ c.if-bytes-input.true))

pub returns : goal.returns
unfolding output_rows first_that_holds short_work short_output
returns c = rw (← c.words.ensures) (simp (le-ltb _ _ c.if-words.false, le-ltb _ _ c.if-bytes-input.false))
