-- No loop: the figures are numbers of 64 bits, so their line is short. Assumes nothing.
use mathlib.Core.List.{[], ◌∷◌}
use native.Mathlib.Omega.{arith}
use borrow.Author.Rules.{rules}
use Rattle.text.proofs.Lines.{room_for_wide, line_given, YieldsList-from_array}
use Rattle.report.proofs.Lines.{figures}
use Rattle.report.proofs.put_figures.Goals as goal

pub push_line-requires : goal.push_line-requires
push_line-requires c =
    let d = c.args.day in
    let xs = d.cost ∷ d.largest ∷ d.expansions ∷ [] in
    (search rules, (search rules, (search rules, room_for_wide (YieldsList-from_array xs cc) (search rules) _ _ (omega arith))))

pub returns : goal.returns
returns c =
    let d = c.args.day in
    figures d _ (search rules) (line_given (YieldsList-from_array (d.cost ∷ d.largest ∷ d.expansions ∷ []) cc) _ c.push_line.ensures)
