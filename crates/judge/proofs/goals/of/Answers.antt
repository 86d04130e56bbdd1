use mathlib.Core.Path.{◌≡◌, ap, ◌∙◌}
use Prim.Native.Nat.{◌+◌, ◌-◌, ◌*◌}
use native.Mathlib.Omega.{arith}
use Rattle.judge.specs.Goals.{note}
use Rattle.judge.proofs.GoalLaws.{walk_again, walk_checked}
use Rattle.judge.proofs.goals.of.Goals as goal

pub loop-k-preserved : goal.loop-k-preserved
loop-k-preserved c =
    let a = c.args in
    let k = c.loop-k.k in
    let next : a.at + 2 * k + 2 ≡ a.at + 2 * (k + 1) = omega arith in
    let left : a.count - k - 1 ≡ a.count - (k + 1) = omega arith in
    let read = c.from-goal.ensures ∙ c.u16_at.ensures in
    rw (← next, ← left)
    (walk_again _ _ _ _ _ _ _ _ c.loop-k.invariant (omega arith) (c.with_goal-g.ensures ∙ ap (note _ _ _) read))

pub returns : goal.returns
returns c = walk_checked _ _ _ _ _ _ _ c.loop-k.invariant (omega arith)
