use mathlib.Core.Path.{refl}
use native.Mathlib.Omega.{arith}
use Rattle.open_list.proofs.Replays as laws
use Rattle.open_list.proofs.tree.lower.Goals as goal

pub loop-places-init : goal.loop-places-init
loop-places-init c = laws.lowering_start _ _ _ _ _ _ c.nodes-m.ensures.same c.requires c.pair-x.ensures

pub returns-then-node-x : goal.returns-then-node-x
returns-then-node-x c =
    laws.lowering_stops _ _ _ _ _ _ c.loop-places.invariant _ _ _ refl (omega arith) (omega (arith, c.node.ensures))

pub returns-then-i-eq0 : goal.returns-then-i-eq0
returns-then-i-eq0 c =
    let loop = c.loop-places in
    let node = c.node.ensures in
    let above = c.if-node-x.false in
    let store = c.store.ensures in
    laws.lowering_end _ _ _ _ _ _ loop.invariant _ store (omega (arith, node, above)) _ _ _ refl (omega arith) c.if-i-eq0.true

pub loop-places-preserved : goal.loop-places-preserved
loop-places-preserved c =
    let loop = c.loop-places in
    let node = c.node.ensures in
    let above = c.if-node-x.false in
    let store = c.store.ensures in
    laws.lowering_step _ _ _ _ _ _ loop.invariant _ store (omega (arith, node, above)) (omega (arith, c.if-i-eq0.false))
