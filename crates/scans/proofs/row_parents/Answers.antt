use mathlib.Core.Path.{◌≡◌, sym}
use mathlib.Core.Option.{some}
use native.Mathlib.Omega.{arith}
use Rattle.model.specs.Costs.{cost_at}
use Rattle.layout.specs.Labels.{labels}
use Rattle.layout.proofs.Labels.{is_label}
use Rattle.scans.proofs.ParentLaws.{no_parents, parenting_start, parenting_arc, parenting_step, parenting_end}
use Rattle.scans.proofs.row_parents.Goals.{Else-d}
use Rattle.scans.proofs.row_parents.Goals as goal

label : (c : Else-d) → let a = c.args in cost_at (labels a.site.places a.work.now) a.u ≡ some c.label-d.result
label c =
    let row = c.requires.row in
    is_label _ _ (omega (arith, row.room)) _ _ (record { place = row.place; word = sym c.label-d.ensures; some = c.if-d.false })

pub returns-then-d : goal.returns-then-d
returns-then-d c = no_parents _ _ _ c.requires (rw c.label-d.ensures at c.if-d.true)

pub overflow_add-arcs : goal.overflow_add-arcs
overflow_add-arcs c =
    omega (arith, c.depth-arcs.ensures, c.requires.recorded.depth_below _ _ (label (goal.at.overflow_add-arcs c).Else-d))

pub loop-k-init : goal.loop-k-init
loop-k-init c = parenting_start _ _ _ c.requires _ _ c.row_start-k.ensures c.row_end-k-end.ensures

pub parent_by-requires : goal.parent_by-requires
parent_by-requires c =
    rw c.arc-x.ensures
    (parenting_arc _ _ _ _ _ _ _ c.requires.recorded.labelled (label (goal.at.parent_by-requires c).Else-d) c.loop-k.invariant c.loop-k-test.true)

pub loop-k-preserved : goal.loop-k-preserved
loop-k-preserved c =
    rw (c.parent_by.ensures, c.arc-x.ensures, c.depth-arcs.ensures)
    (parenting_step _ _ _ _ _ _ _ c.requires.recorded.labelled (label (goal.at.loop-k-preserved c).Else-d) c.loop-k.invariant c.loop-k-test.true)

pub returns : goal.returns
returns c = parenting_end _ _ _ _ _ _ c.loop-k.invariant c.loop-k-test.false
