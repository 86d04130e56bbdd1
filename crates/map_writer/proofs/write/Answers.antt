-- A refusal leaves both areas as they were; a job that is ready is as its judgement states.
use Rattle.map_writer.proofs.Lent.{refused_wrote, has_room}
use Rattle.map_writer.proofs.write.Goals as goal

pub accepted-requires : goal.accepted-requires
accepted-requires c = has_room c.ready.ensures c.in-Ok.is

pub returns-in-Err : goal.returns-in-Err
returns-in-Err c = refused_wrote c.ready.ensures c.in-Err.is (rw c.number.ensures at c.refused.ensures)
