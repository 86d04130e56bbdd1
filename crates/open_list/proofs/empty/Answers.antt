-- The empty hand is one number.
-- Assumes nothing.
use borrow.Author.Rules.{rules}
use Rattle.open_list.specs.Keys.{empty_hand}
use Rattle.open_list.proofs.empty.Goals as goal

pub returns : goal.returns
unfolding empty_hand
returns c = search rules
