-- The budget of the round that follows fits, since the definition's does. Assumes nothing.
use mathlib.Core.Option.{some}
use Rattle.model.specs.Rounds.{settle, after}
use Rattle.search.specs.Rounds.{high_of}
use Rattle.search.proofs.after.Goals as goal

pub settle-requires : goal.settle-requires
unfolding after
settle-requires c =
    let a = c.args in
    record { fits = c.requires.fits (settle a.growth c.in-Ended.next (high_of a.round.high) a.round.budget) (rw c.in-Ended.is) }

pub settle-requires-in-Over : goal.settle-requires-in-Over
unfolding after
settle-requires-in-Over c =
    let a = c.args in
    record { fits = c.requires.fits (settle a.growth a.round.low (some a.limit) a.round.budget) (rw c.in-Over.is) }
