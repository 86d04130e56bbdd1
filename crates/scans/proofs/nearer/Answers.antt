-- The place is chosen only where it is a goal, has the label, and has a smaller depth. Assumes nothing.
use mathlib.Core.Path.{sym, ◌∙◌}
use native.Mathlib.Omega.{arith}
use borrow.Author.Tests.{eqb-true, eqb-false, not-true, not-false}
use Rattle.scans.proofs.Goals.{chosen, not_chosen}
use Rattle.scans.proofs.nearer.Goals as goal

pub returns-then-not-is_goal : goal.returns-then-not-is_goal
returns-then-not-is_goal c =
    let no_mark = eqb-true _ 0 (not-false _ (sym c.is_goal.ensures ∙ c.if-not-is_goal.true)) in
    sym (not_chosen _ _ _ _ (λ h. h.mark no_mark))

pub returns-then-label : goal.returns-then-label
returns-then-label c =
    sym (not_chosen _ _ _ _ (λ h. omega (arith, h.label, c.label.ensures, c.label-2.ensures, c.if-label.true)))

pub returns-then-depth : goal.returns-then-depth
returns-then-depth c =
    let mark = eqb-false _ 0 (not-true _ (sym c.is_goal.ensures ∙ c.if-not-is_goal.false)) in
    sym (chosen _ _ _ _ (record {
      mark = mark;
      label = omega (arith, c.label.ensures, c.label-2.ensures, c.if-label.false);
      depth = omega (arith, c.depth.ensures, c.depth-2.ensures, c.if-depth.true);
    }))

pub returns-else-depth : goal.returns-else-depth
returns-else-depth c =
    sym (not_chosen _ _ _ _ (λ h. omega (arith, h.depth, c.depth.ensures, c.depth-2.ensures, c.if-depth.false)))
