use native.Mathlib.Omega.{arith}
use mathlib.Core.Path.{sym}
use mathlib.Core.List.{append-nil}
use Rattle.std.proofs.Common.{rules}
use Rattle.text.specs.Text.{parted}
use Rattle.text.proofs.Lines.{room_for_one, one_put, room_for_end, line_put}
use Rattle.text.proofs.push_line.Goals as goal

pub loop-x-init : goal.loop-x-init
unfolding parted
loop-x-init g c = (search rules, search rules, sym (append-nil _))

pub push_in_line-requires : goal.push_in_line-requires
push_in_line-requires g c =
    let l = c.loop-x in
    let fits = room_for_one g.I.Iterator.next_gives c.into_iter-x-iterator.ensures.into_iter_gives l.yielded l.x-iterator l.yielded_by _ c.len-from.ensures.value c.requires.room l.invariant.2 c.in-Some.x _ c.in-Some.ensures.steps in
    (search rules, omega arith)

pub loop-x-preserved : goal.loop-x-preserved
loop-x-preserved g c =
    let l = c.loop-x in
    let more = one_put g.I.Iterator.next_gives c.into_iter-x-iterator.ensures.into_iter_gives l.yielded l.x-iterator l.yielded_by _ c.len-from.ensures.value c.requires.room l.invariant.2 c.in-Some.x c.push_in_line.ensures in
    (search rules, search rules, more)

pub push-requires : goal.push-requires
push-requires g c =
    let l = c.loop-x in
    let fits = room_for_end g.I.Iterator.next_gives c.into_iter-x-iterator.ensures.into_iter_gives l.yielded l.x-iterator l.yielded_by _ c.len-from.ensures.value c.requires.room l.invariant.2 _ c.in-None.ensures.steps in
    (search rules, omega arith)

pub returns : goal.returns
returns g c =
    let l = c.loop-x in
    line_put g.I.Iterator.next_gives c.into_iter-x-iterator.ensures.into_iter_gives l.yielded l.x-iterator l.yielded_by _ c.len-from.ensures.value c.requires.room l.invariant.2 _ {new = c.push.new.self.items} c.in-None.ensures.steps c.push.ensures.items
