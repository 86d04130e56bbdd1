-- `record::wait_at` meets its contract: the fields are what the calls read. Assumes nothing.
use mathlib.Core.Path.{sym, ◌∙◌}
use Rattle.map.proofs.Items.{wait_at_lem}
use Rattle.map.proofs.record.wait_at.Goals as goal

pub returns : goal.returns
returns c =
    let place = c.from.ensures ∙ c.u16_at.ensures in
    rw (place, c.from-2.ensures ∙ c.u16_at-2.ensures) (sym (wait_at_lem _ _))
