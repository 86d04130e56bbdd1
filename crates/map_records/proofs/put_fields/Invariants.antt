-- The loop's invariant: the fields from this one on are left to be put. Assumes nothing.
use lib.ListN.{drop}
use Rattle.map.specs.Items.{kind_number}
use Rattle.model.specs.Bytes.{put16s}
use Rattle.model.specs.Framing.{put_record}
use Rattle.map_records.proofs.PutLoops.{Putting}
use Rattle.map_records.proofs.put_fields.Given as goal

abbrev pub invariant-loop-field : goal.invariant-loop-field
invariant-loop-field l =
    Putting (put_record (kind_number l.fn.kind) (put16s l.fields)) (put16s (drop l.field-index l.fields)) l.at l.fn.out l.out l.end
