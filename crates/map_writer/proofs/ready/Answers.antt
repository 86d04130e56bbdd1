-- One law for each way out: the input's own number, the room's, and none.
use Rattle.std.proofs.lemmas.Result.{err_from_is_err_and}
use Rattle.judge.proofs.Passing.{passes, sizes}
use Rattle.map_writer.proofs.Lent.{input_refused, room_refused, is_ready}
use Rattle.map_writer.proofs.ready.Goals as goal

pub returns-in_err-job : goal.returns-in_err-job
returns-in_err-job c =
    let p = err_from_is_err_and c.from_residual.result c.from_residual.ensures.1 in
    rw (p.1, p.2) (input_refused c.judge.ensures c.in_err-job.was)

pub room-requires : goal.room-requires
room-requires c = sizes (passes c.judge.ensures c.in_ok-job.was)

pub returns-in_err-room : goal.returns-in_err-room
returns-in_err-room c =
    let p = err_from_is_err_and c.from_residual-in_err-room.result c.from_residual-in_err-room.ensures.1 in
    rw (p.1, p.2) (room_refused c.judge.ensures c.in_ok-job.was c.in_err-room.ensures)

pub returns : goal.returns
returns c = is_ready c.judge.ensures c.in_ok-job.was c.in_ok-room.ensures
