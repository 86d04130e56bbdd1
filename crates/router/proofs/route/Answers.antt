-- A refusal leaves both areas as they were; a job that is ready is as its judgement states.
use Rattle.router.proofs.Refusing.{refused_routed, has_room}
use Rattle.router.proofs.route.Goals as goal

pub accepted-requires : goal.accepted-requires
accepted-requires c = has_room c.ready.ensures c.in-Ok.is

pub returns-in-Err : goal.returns-in-Err
returns-in-Err c = refused_routed c.ready.ensures c.in-Err.is (rw c.number.ensures at c.refused.ensures)
