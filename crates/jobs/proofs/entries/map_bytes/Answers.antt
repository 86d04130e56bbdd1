use mathlib.Core.Path.{ap, ◌∙◌}
use Rattle.std.specs.Prelude.{Some}
use Rattle.jobs.proofs.EntryLaws.{map-begins, map_broken, map_ends, map_ends_at_job, map_goes_on}
use Rattle.jobs.proofs.entries.map_bytes.Goals as goal

pub loop-record-init : goal.loop-record-init
loop-record-init c = map-begins (c.into_iter-record-iterator.ensures.into_iter_gives ∙ c.from-record-items.ensures)

pub returns-in_default : goal.returns-in_default
returns-in_default c = map_broken c.loop-record.invariant c.next.ensures.steps (c.in-Some.is ∙ ap Some c.in_default.is)

pub returns-then-r : goal.returns-then-r
returns-then-r c = map_ends_at_job c.loop-record.invariant c.next.ensures.steps (c.in-Some.is ∙ ap Some c.in-Ok.is) c.if-r.true

pub loop-record-preserved : goal.loop-record-preserved
loop-record-preserved c = map_goes_on c.loop-record.invariant c.next.ensures.steps (c.in-Some.is ∙ ap Some c.in-Ok.is) c.if-r.false

pub returns : goal.returns
returns c = map_ends c.loop-record.invariant c.next.ensures.steps c.in-None.is
