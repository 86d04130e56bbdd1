-- A job is put behind the map in the buffer, and the buffer's front is routed; what is no job is refused. Assumes nothing.
use Rattle.area.specs.Part.{part}
use Rattle.jobs.proofs.OneRecord.{other_run, job_run}
use Rattle.jobs.proofs.run_record.Goals as goal

pub returns-then-r : goal.returns-then-r
returns-then-r c = other_run c.requires c.if-r.true (rw c.number.ensures at c.refused.ensures)

pub returns : goal.returns
unfolding part
returns c =
    job_run c.requires c.put_bytes.ensures c.if-r.false c.route.ensures
