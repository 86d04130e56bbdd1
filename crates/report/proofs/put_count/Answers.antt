-- No loop: a number that did not occur leaves the text as it was, and one that did is put with its count. Assumes nothing.
use mathlib.Core.List.{[], ◌∷◌}
use native.Mathlib.Omega.{arith}
use borrow.Author.Rules.{rules}
use Rattle.std.proofs.Common.{tests}
use Rattle.text.proofs.Lines.{room_for_narrow, line_given, widened, YieldsList-from_array}
use Rattle.report.proofs.Lines.{no_count, a_count}
use Rattle.report.proofs.put_count.Goals as goal

pub returns-else-count-ne0 : goal.returns-else-count-ne0
returns-else-count-ne0 c = no_count _ _ c.if-count-ne0.false

pub push_line-requires : goal.push_line-requires
push_line-requires c =
    let xs = c.args.number ∷ c.args.count ∷ [] in
    (search rules, (search rules, (search rules, room_for_narrow (widened _ (YieldsList-from_array xs cc) c.map.ensures.closure (λ x r q k. search (rules, tests))) (search rules) _ _ (omega arith))))

pub returns-then-count-ne0 : goal.returns-then-count-ne0
returns-then-count-ne0 c =
    let xs = c.args.number ∷ c.args.count ∷ [] in
    let put = line_given (widened _ (YieldsList-from_array xs cc) c.map.ensures.closure (λ x r q k. search (rules, tests))) _ c.push_line.ensures in
    a_count _ _ _ c.if-count-ne0.true (search rules) (search rules) put
