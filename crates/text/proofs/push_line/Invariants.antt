-- The loop's invariant: the numbers that came are put, parted by blanks. Assumes nothing.
use Rattle.std.proofs.Common.{◌≡◌, ◌++◌}
use Rattle.text.specs.Text.{parted}
use Rattle.text.proofs.push_line.Given as goal

abbrev pub invariant-loop-x : goal.invariant-loop-x
invariant-loop-x g l =
    (goal.iterator-loop-x g).can_next l.x-iterator × (goal.iterator-loop-x g).is_finite l.x-iterator
    × l.text.items ≡ l.initial.text.items ++ parted l.yielded
