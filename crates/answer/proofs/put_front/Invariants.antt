-- The loop's invariant: the first i items are copied, as many as there is room for. Assumes nothing.
use mathlib.Core.Path.{◌≡◌}
use lib.ListN.{take}
use Rattle.answer.specs.Numbers.{put_over}
use Rattle.answer.proofs.put_front.Given as goal

abbrev pub invariant-loop-i : goal.invariant-loop-i
invariant-loop-i g l = l.to ≡ put_over (take l.i l.items) l.initial.to
