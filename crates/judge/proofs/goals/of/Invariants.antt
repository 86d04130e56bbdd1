-- The loop's invariant, `GoalsWalked`: what is noted so far, with the goals that are left, is what is noted of all goals.
use Prim.Native.Nat.{◌+◌, ◌-◌, ◌*◌}
use Rattle.judge.specs.Goals.{GoalsWalked}
use Rattle.model.specs.Bytes.{u16s}
use Rattle.judge.proofs.goals.of.Given as goal

abbrev pub invariant-loop-k : goal.invariant-loop-k
invariant-loop-k l = GoalsWalked l.input (u16s l.count l.input l.at) l.places l.marks (l.at + 2 * l.k) (l.count - l.k) l.g
