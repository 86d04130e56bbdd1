-- `record::head_at` meets its contract: the fields are what the calls read. Assumes nothing.
use mathlib.Core.Path.{sym, ◌∙◌}
use Rattle.map.proofs.Items.{size_at_lem}
use Rattle.map.proofs.record.head_at.Goals as goal

pub returns : goal.returns
returns c =
    let places = c.from.ensures ∙ c.u16_at.ensures in
    rw (places, c.from-2.ensures ∙ c.u16_at-2.ensures) (sym (size_at_lem _ _))
