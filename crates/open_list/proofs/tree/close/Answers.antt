use mathlib.Core.Path.{refl}
use native.Mathlib.Omega.{arith}
use Rattle.open_list.proofs.Eight.{in_fours}
use Rattle.open_list.proofs.Replays as laws
use Rattle.open_list.proofs.tree.close.Goals as goal

pub loop-i-init : goal.loop-i-init
loop-i-init c =
    let least = in_fours _ _ _ _ _ c.leaves4.ensures c.leaves4-2.ensures c.min-x.ensures in
    laws.closing_start _ _ _ _ _ c.nodes-m.ensures.same c.requires _ least

pub loop-i-preserved : goal.loop-i-preserved
loop-i-preserved c =
    let others = in_fours _ _ _ _ _ c.nodes4.ensures c.nodes4-in-loop-i.ensures c.min-others.ensures in
    laws.closing_step _ _ _ _ _ _ c.loop-i.invariant 0xFFFF_FFFF_FFFF_FFFF _ _ _ _ c.loop-i-test.true c.store.ensures
    (omega arith) others c.store-in-loop-i.ensures c.min-x-in-loop-i.ensures

pub returns : goal.returns
returns c =
    let root = c.store-2.ensures in
    laws.closing_end _ _ _ _ _ _ c.loop-i.invariant _ _ _ _ refl (omega arith) (omega (arith, c.loop-i-test.false)) root
