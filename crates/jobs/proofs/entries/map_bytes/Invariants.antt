-- The loop's invariant: the map is the bytes passed and the records from there up to the first job.
use Rattle.jobs.proofs.EntryLaws.{MapLeft}
use Rattle.jobs.proofs.entries.map_bytes.Given as goal

abbrev pub invariant-loop-record : goal.invariant-loop-record
invariant-loop-record l = MapLeft l.input l.record-iterator l.bytes
