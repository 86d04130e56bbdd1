use mathlib.Core.Path.{◌∙◌}
use mathlib.Core.Bool.{or-true, or-false}
use Rattle.map.proofs.Walks.{walk_begins, walk_comes, walk_on, walk_ends}
use Rattle.judge.proofs.WaitLaws.{noting_begins, noting_can, noting_step, noting_ends}
use Rattle.judge.proofs.waits.note_all.Goals as goal

pub loop-item-init : goal.loop-item-init
loop-item-init c =
    walk_begins (c.into_iter-item-iterator.ensures.into_iter_gives ∙ c.of-item-items.ensures) (noting_begins _ c.requires.1)

pub note-requires : goal.note-requires
note-requires c = noting_can c.requires.0 (walk_comes c.loop-item.invariant c.next.ensures.steps c.in-Some.is)

-- a wait whose place has one already
pub loop-item-preserved-then-note : goal.loop-item-preserved-then-note
loop-item-preserved-then-note c =
    let walk = c.loop-item.invariant in
    let step = c.next.ensures.steps in
    let kept = noting_step c.requires.0 (walk_comes walk step c.in-Some.is) c.note.ensures in
    walk_on walk step c.in-Some.is (rw (c.if-note.true, or-true c.loop-item.twice) at kept)

pub loop-item-preserved : goal.loop-item-preserved
loop-item-preserved c =
    let walk = c.loop-item.invariant in
    let step = c.next.ensures.steps in
    let kept = noting_step c.requires.0 (walk_comes walk step c.in-Some.is) c.note.ensures in
    walk_on walk step c.in-Some.is (rw (c.if-note.false, or-false c.loop-item.twice) at kept)

pub returns : goal.returns
returns c = noting_ends (walk_ends c.loop-item.invariant c.next.ensures.steps c.in-None.is)
