-- `record::lane_at` meets its contract: the fields are what the calls read. Assumes nothing.
use mathlib.Core.Path.{sym, ◌∙◌}
use Rattle.map.proofs.Items.{lane_at}
use Rattle.map.proofs.record.lane_at.Goals as goal

pub returns : goal.returns
returns c =
    let from = c.from.ensures ∙ c.u16_at.ensures in
    let to = c.from-2.ensures ∙ c.u16_at-2.ensures in
    rw (from, to, c.from-3.ensures ∙ c.u16_at-3.ensures) (sym (lane_at _ _))
