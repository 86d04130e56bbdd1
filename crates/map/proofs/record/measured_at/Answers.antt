-- `record::measured_at` meets its contract: the fields are what the calls read. Assumes nothing.
use mathlib.Core.Path.{sym, ◌∙◌}
use Rattle.map.proofs.Items.{measured_at}
use Rattle.map.proofs.record.measured_at.Goals as goal

pub returns : goal.returns
returns c =
    let from = c.from.ensures ∙ c.u16_at.ensures in
    let to = c.from-2.ensures ∙ c.u16_at-2.ensures in
    let long = c.from-3.ensures ∙ c.u16_at-3.ensures in
    rw (from, to, long, c.from-4.ensures ∙ c.u16_at-4.ensures) (sym (measured_at _ _))
