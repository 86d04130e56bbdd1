-- The loop's invariant: the factors of the classes before this one are read.
use mathlib.Core.Path.{◌≡◌}
use Rattle.map.proofs.Factors.{read_below}
use Rattle.map.proofs.record.factors_at.Given as goal

abbrev pub invariant-loop-class : goal.invariant-loop-class
invariant-loop-class l = l.factors ≡ read_below l.input l.at l.class
