use mathlib.Core.Path.{ap, ◌∙◌}
use mathlib.Core.List.{List}
use native.Mathlib.Omega.{arith}
use lib.ListN.{set}
use Rattle.answer.proofs.Fronts.{one_over, no_room_over}
use Rattle.answer.proofs.put_front.Goals.{then-i-to, else-i-to}
use Rattle.answer.proofs.put_front.Goals as goal

pub loop-i-preserved : goal.loop-i-preserved
loop-i-preserved g c =
    let l = c.loop-i in
    let a = c.args in
    let x = c.index-items-i in
    elim c.if-i-to.branch [
      | then-i-to w ↦ w.to-is ∙ ap (λ (t : List g.row.T.Denot). set t l.i x.result) l.invariant
          ∙ rw (← x.is) at (one_over x.result a.items.now a.to.now l.i c.loop-i-test.true (omega (arith, w.if-i-to.true, l.auto.to)))
      | else-i-to w ↦ w.to-is ∙ l.invariant ∙ no_room_over a.items.now a.to.now l.i (omega (arith, w.if-i-to.false, l.auto.to))
    ]
