-- `waits::wrong` meets its contract: without waits nothing is wrong; otherwise the two passes find it. Assumes nothing.
use mathlib.Core.Path.{sym, ◌∙◌}
use Rattle.judge.proofs.MarkLaws.{zeros_clear}
use Rattle.judge.proofs.WaitLaws.{no_waits, waits_same}
use Rattle.judge.proofs.waits.wrong.Goals as goal

pub returns-then-waits-eq0 : goal.returns-then-waits-eq0
returns-then-waits-eq0 c = sym (no_waits c.requires.0 (sym c.requires.1 ∙ c.if-waits-eq0.true))

pub note_all-twice-requires : goal.note_all-twice-requires
note_all-twice-requires c = (c.requires.0, zeros_clear)

pub returns : goal.returns
returns c = waits_same c.note_all-twice.ensures c.any_too_dear.ensures
