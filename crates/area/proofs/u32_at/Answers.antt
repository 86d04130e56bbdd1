-- The two fields of 2 bytes, lower first.
use borrow.Author.Rules.{rules}
use Rattle.model.specs.Bytes.{u32}
use Rattle.area.proofs.u32_at.Goals as goal

pub returns : goal.returns
unfolding u32
returns c = search rules
