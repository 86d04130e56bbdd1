-- The measure is the number of arcs left to the start.
use Rattle.sheet_writer.proofs.+put_places.Given as goal

abbrev pub decreases-put_places : goal.decreases-put_places
decreases-put_places l = l.arcs
