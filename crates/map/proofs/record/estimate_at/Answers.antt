-- `record::estimate_at` meets its contract: the fields are what the calls read. Assumes nothing.
use mathlib.Core.Path.{sym, ◌∙◌}
use Rattle.map.proofs.Items.{estimate_at_lem}
use Rattle.map.proofs.record.estimate_at.Goals as goal

pub returns : goal.returns
returns c = rw (c.from.ensures ∙ c.u16_at.ensures, c.u32_at.ensures) (sym (estimate_at_lem _ _))
