use mathlib.Core.Path.{◌∙◌}
use native.Mathlib.Omega.{arith}
use Rattle.jobs.proofs.EntryLaws.{map_inside, at_step, count_begins, count_goes_on, count_ends}
use Rattle.jobs.proofs.entries.count.Goals as goal

pub from-record-items-requires : goal.from-record-items-requires
from-record-items-requires c = rw c.requires (map_inside c.args.input.now)

pub loop-record-init : goal.loop-record-init
loop-record-init c = count_begins (c.into_iter-record-iterator.ensures.into_iter_gives ∙ c.from-record-items.ensures) c.requires

pub overflow_add-entries : goal.overflow_add-entries
overflow_add-entries c =
    let inside = (at_step c.loop-record.invariant.same c.next.ensures.steps).0 in
    omega (arith, inside, c.loop-record.invariant.few)

pub loop-record-preserved : goal.loop-record-preserved
loop-record-preserved c = count_goes_on c.loop-record.invariant c.next.ensures.steps c.in-Some.is

pub returns : goal.returns
returns c = count_ends c.loop-record.invariant c.next.ensures.steps c.in-None.is
