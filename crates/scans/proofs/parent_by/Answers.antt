-- The parent is stored only where the arc gives the label and the depth of its end, and no parent is there. Assumes nothing.
use mathlib.Core.Path.{◌≡◌, sym, ◌∙◌}
use native.Mathlib.Omega.{arith}
use Rattle.layout.specs.Regions.{label_word, depth_word, parent_word, arc_end}
use Rattle.scans.proofs.ParentLaws.{stored_not, stored_first}
use Rattle.scans.proofs.parent_by.Goals.{After-arc_cost, After-depth, After-parent}
use Rattle.scans.proofs.parent_by.Goals as goal

label : (c : After-arc_cost) → c.label.result ≡ label_word c.args.work.now (arc_end c.args.x)
label c =
    let end : c.arc_end-v.result ≡ arc_end c.args.x =
    c.arc_end-v.ensures in
    rw end at c.label.ensures

depth : (c : After-depth) → let a = c.args in c.depth.result ≡ depth_word a.n a.work.now (arc_end a.x)
depth c =
    let end : c.arc_end-v.result ≡ arc_end c.args.x =
    c.arc_end-v.ensures in
    rw end at c.depth.ensures

parent : (c : After-parent) → let a = c.args in c.parent.result ≡ parent_word a.n a.work.now (arc_end a.x)
parent c =
    let end : c.arc_end-v.result ≡ arc_end c.args.x =
    c.arc_end-v.ensures in
    rw end at c.parent.ensures

pub returns-then-label-d : goal.returns-then-label-d
returns-then-label-d c =
    sym (stored_not _ _ _ _ _ _ (λ fits. omega (arith, fits.label, (label (goal.at.returns-then-label-d c).After-arc_cost), c.arc_cost.ensures, c.if-label-d.true)))

pub returns-then-depth-k : goal.returns-then-depth-k
returns-then-depth-k c = sym (stored_not _ _ _ _ _ _ (λ fits. omega (arith, fits.depth, (depth (goal.at.returns-then-depth-k c).After-depth), c.if-depth-k.true)))

pub returns-then-parent : goal.returns-then-parent
returns-then-parent c =
    let end : c.arc_end-v.result ≡ arc_end c.args.x =
    c.arc_end-v.ensures in
    c.set_parent.ensures
    ∙ rw end (sym (stored_first _ _ _ _ _ _ (record {
      label = omega (arith, (label (goal.at.returns-then-parent c).After-arc_cost), c.arc_cost.ensures, c.if-label-d.false);
      depth = omega (arith, (depth (goal.at.returns-then-parent c).After-depth), c.if-depth-k.false);
      no_parent = omega (arith, (parent (goal.at.returns-then-parent c).After-parent), c.if-parent.true);
    })))

pub returns-else-parent : goal.returns-else-parent
returns-else-parent c = sym (stored_not _ _ _ _ _ _ (λ fits. omega (arith, fits.no_parent, (parent (goal.at.returns-else-parent c).After-parent), c.if-parent.false)))
