-- No loop: a goal that was not reached leaves the text as it was, and one that was is put with its routes and their cost. Assumes nothing.
use mathlib.Core.List.{[], ◌∷◌}
use native.Mathlib.Omega.{arith}
use borrow.Author.Rules.{rules}
use Rattle.text.proofs.Lines.{room_for_wide, line_given, YieldsList-from_array}
use Rattle.report.proofs.Lines.{no_goal, a_goal}
use Rattle.report.proofs.put_goal.Goals as goal

pub returns-else-t-ne0 : goal.returns-else-t-ne0
returns-else-t-ne0 c = no_goal _ c.if-t-ne0.false

pub push_line-requires : goal.push_line-requires
push_line-requires c =
    let t = c.args.t in
    let xs = t.goal ∷ t.routes ∷ t.cost ∷ [] in
    (search rules, (search rules, (search rules, room_for_wide (YieldsList-from_array xs cc) (search rules) _ _ (omega arith))))

pub returns-then-t-ne0 : goal.returns-then-t-ne0
returns-then-t-ne0 c =
    let t = c.args.t in
    a_goal t _ c.if-t-ne0.true (search rules) (line_given (YieldsList-from_array (t.goal ∷ t.routes ∷ t.cost ∷ []) cc) _ c.push_line.ensures)
