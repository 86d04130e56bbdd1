-- The loop's invariant: the first n counts stand after the totals. Assumes nothing.
use mathlib.Core.Path.{◌≡◌}
use lib.Seq.{paste}
use Rattle.day.proofs.Telling.{uncounted}
use Rattle.day.proofs.host.figures_of.Given as goal

abbrev pub invariant-loop-n : goal.invariant-loop-n
invariant-loop-n l = l.figures ≡ paste (uncounted l.fn.day) 3 l.count-items l.n
