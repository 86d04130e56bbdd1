-- The two bytes, lower first.
use borrow.Author.Rules.{rules}
use Rattle.model.specs.Bytes.{u16}
use Rattle.area.proofs.u16_at.Goals as goal

pub returns : goal.returns
unfolding u16
returns c = search rules
