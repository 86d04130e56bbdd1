-- The lanes are put in order, the map is written, and the words that document 01 asks for are filled with 0. Assumes nothing.
use mathlib.Core.Path.{◌≡◌, ap, ◌∙◌}
use Prim.Native.Nat.{ℕ, ◌≤◌}
use native.Mathlib.Omega.{arith}
use lib.ListN.{length, drop, replicate}
use Rattle.model.specs.Answer.{over_front}
use Rattle.area.proofs.Fronts.{cleared}
use Rattle.judge.proofs.Passing.{sizes}
use Rattle.map_writer.proofs.AcceptedInput.{passes, room, loadable, puttable, short, accepted_wrote}
use Rattle.map_writer.proofs.accepted.Goals as goal

pub order-requires : goal.order-requires
order-requires c =
    loadable _ _ _ _ c.requires

pub put_map-bytes-requires : goal.put_map-bytes-requires
put_map-bytes-requires c =
    puttable _ _ _ _ c.requires _ c.order.auto.work c.order.ensures

pub words-need-requires : goal.words-need-requires
words-need-requires c =
    sizes (passes _ _ _ _ c.requires)

pub slice_bounds-fill-end : goal.slice_bounds-fill-end
slice_bounds-fill-end c =
    omega (arith, c.words-need.ensures, room _ _ _ _ c.requires, c.order.auto.work)

pub wrote-requires : goal.wrote-requires
wrote-requires c =
    short _ _ _ _ c.requires _ c.order.auto.work c.order.ensures _ _ c.put_map-bytes.ensures

pub returns : goal.returns
returns c =
    let need = c.words-need in
    let work = c.args.work.now in
    let enough : need.result ≤ length c.order.new.work
    = omega (arith, need.ensures, room _ _ _ _ c.requires, c.order.auto.work) in
    let rest : drop need.result c.order.new.work ≡ drop need.result work = rw need.ensures c.order.ensures.rest in
    let zeros = cleared _ work _ _ enough rest c.fill.ensures in
    let written = accepted_wrote _ _ _ _ c.requires _ c.order.auto.work c.order.ensures _ _ c.put_map-bytes.ensures in
    written _ c.wrote.ensures _ (zeros ∙ ap (λ (k : ℕ). over_front (replicate k 0) work) need.ensures)
