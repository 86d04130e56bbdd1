-- The keys start at word m + m.
-- Assumes nothing.
use mathlib.Core.Path.{sym}
use Rattle.open_list.proofs.Stores.{keys_at}
use Rattle.open_list.proofs.tree.key.Goals as goal

pub returns : goal.returns
returns c =
    sym (keys_at _ _ _ _ c.nodes-m.ensures.same c.requires.place_in)
