-- The bytes are stored one after another.
use native.Mathlib.Numerals.{towards_suc}
use Rattle.model.specs.Bytes.{put16}
use Rattle.area.proofs.put16.Goals as goal

pub returns : goal.returns
unfolding put16
returns c = simp towards_suc
