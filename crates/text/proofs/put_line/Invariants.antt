-- The loop's invariant: the first i numbers are put, in at most 11 bytes each. The measure is the number of numbers that are left. Assumes nothing.
use Prim.Native.Nat.{◌-◌}
use lib.ListN.{length}
use Rattle.text.proofs.Lines.{Begun}
use Rattle.text.proofs.put_line.Given as goal

abbrev pub invariant-loop-i : goal.invariant-loop-i
invariant-loop-i l = Begun 11 l.numbers l.at l.initial.text l.text l.end l.i

abbrev pub decreases-loop-i : goal.decreases-loop-i
decreases-loop-i l = length l.numbers - l.i
