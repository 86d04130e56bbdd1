-- The kind stands after the length.
use mathlib.Core.Path.{refl}
use native.Mathlib.Omega.{arith}
use Rattle.map.specs.Items.{kind_number}
use Rattle.model.specs.Bytes.{put16}
use Rattle.map_records.proofs.PutRecords.{put_as, put_next}
use Rattle.map_records.proofs.put_header.Goals as goal

pub returns : goal.returns
unfolding put16
returns c =
    put_next (put16 (kind_number c.args.kind)) (put_as {new = put16 c.args.bytes} refl c.put16.ensures) (rw (c.from.ensures, c.number.ensures) at c.put16-2.ensures) refl (omega arith)
