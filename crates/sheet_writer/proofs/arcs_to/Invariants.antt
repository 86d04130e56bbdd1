-- The loop's invariant: the places before those counted lead to the word in hand. The measure is how many places are left of all.
use Prim.Native.Nat.{◌-◌}
use Rattle.sheet_writer.specs.Places.{CountingArcs}
use Rattle.sheet_writer.proofs.arcs_to.Given as goal

abbrev pub invariant-loop-u : goal.invariant-loop-u
invariant-loop-u l = CountingArcs l.n l.work l.v l.u l.arcs

abbrev pub decreases-loop-u : goal.decreases-loop-u
decreases-loop-u l = l.n - l.arcs
