-- The loop's invariant: the first i places are listed with zeros after them, they are places of a map and different, and exactly those that are
-- among them are marked. Assumes nothing.
use Rattle.sheet_reader.specs.Listing.{Passed}
use Rattle.sheet_reader.proofs.places_of.Given as goal

abbrev pub invariant-loop-i : goal.invariant-loop-i
invariant-loop-i l = Passed l.body l.count l.i l.list l.seen
