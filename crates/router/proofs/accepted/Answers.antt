-- The loaded problem is the input's, and its verdict is concluded.
use Rattle.router.proofs.Routing.{concludable, accepted_routed}
use Rattle.router.proofs.accepted.Goals as goal

pub conclude-requires : goal.conclude-requires
conclude-requires c =
    let load = c.load in
    concludable c.requires load.ensures c.search-verdict.ensures load.auto.work c.search-verdict.auto.work

pub returns : goal.returns
returns c =
    let load = c.load.ensures in
    accepted_routed c.requires load c.search-verdict.ensures c.conclude.ensures
