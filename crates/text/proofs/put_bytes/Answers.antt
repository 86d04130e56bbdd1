-- The part of the text that is copied over holds the bytes. Assumes nothing.
use native.Mathlib.Omega.{arith}
use Rattle.text.proofs.Puts.{put_part}
use Rattle.text.proofs.put_bytes.Goals as goal

pub returns : goal.returns
returns c = put_part c.args.bytes.now c.args.at _ c.args.text.now (omega arith) c.copy_from_slice.ensures.after
