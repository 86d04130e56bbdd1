-- `survey::of` meets its contract. The loop's invariant, `Walked`: the survey is that of the records before byte `at`. The measure is the bytes that
-- are left. Assumes nothing.
use Prim.Native.Nat.{◌-◌}
use lib.ListN.{length}
use Rattle.judge.specs.Survey.{Walked}
use Rattle.judge.proofs.survey.of.Given as goal

abbrev pub invariant-loop-r : goal.invariant-loop-r
invariant-loop-r l = Walked l.input l.at l.marks l.s

abbrev pub decreases-loop-r : goal.decreases-loop-r
decreases-loop-r l = length l.input - l.at
