-- After g turns the tally is put_to g of what it was.
use Rattle.std.proofs.Common.{◌≡◌}
use Rattle.tally.specs.Tallied.{put_to}
use Rattle.tally.proofs.put.Given as goal

abbrev pub invariant-loop-g : goal.invariant-loop-g
invariant-loop-g l = l.tally ≡ put_to l.g l.routes l.costs l.initial.tally
