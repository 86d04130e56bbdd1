use mathlib.Core.Path.{sym, ◌∙◌}
use Rattle.map.proofs.Walks.{walk_begins, walk_comes, walk_on, walk_ends}
use Rattle.judge.proofs.WaitLaws.{weighing_begins, weighing_can, weighing_step, weighing_ends}
use Rattle.judge.proofs.waits.any_too_dear.Goals as goal

pub loop-item-init : goal.loop-item-init
loop-item-init c = walk_begins (c.into_iter-item-iterator.ensures.into_iter_gives ∙ c.of-item-items.ensures) (weighing_begins _)

pub too_dear-requires : goal.too_dear-requires
too_dear-requires c = weighing_can c.requires (walk_comes c.loop-item.invariant c.next.ensures.steps c.in-Some.is)

pub returns-then-too_dear : goal.returns-then-too_dear
returns-then-too_dear c =
    weighing_step c.requires (walk_comes c.loop-item.invariant c.next.ensures.steps c.in-Some.is) (sym c.if-too_dear.true ∙ c.too_dear.ensures)

pub loop-item-preserved : goal.loop-item-preserved
loop-item-preserved c =
    let walk = c.loop-item.invariant in
    let step = c.next.ensures.steps in
    walk_on walk step c.in-Some.is (weighing_step c.requires (walk_comes walk step c.in-Some.is) (sym c.if-too_dear.false ∙ c.too_dear.ensures))

pub returns : goal.returns
returns c = weighing_ends _ _ (walk_ends c.loop-item.invariant c.next.ensures.steps c.in-None.is)
