use native.Mathlib.Omega.{arith}
use Rattle.model.specs.Bytes.{put16, put16s}
use Rattle.model.specs.Framing.{put_record}
use Rattle.model.specs.Jobs.{put_wait}
use Rattle.map_records.specs.Puts.{put_value}
use Rattle.map_records.proofs.WaitPlaceRecord.put.Goals as goal

pub put_fields-requires : goal.put_fields-requires
unfolding put_value put_wait put_record put16s put16
put_fields-requires c = (omega arith, c.requires.1)

pub returns : goal.returns
unfolding put_value put_wait put_record put16s put16
returns c = c.put_fields.ensures
