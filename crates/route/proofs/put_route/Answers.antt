-- No loop: line one, and line two for 0. Assumes nothing.
use mathlib.Core.Path.{◌≡◌, sym, ap}
use Prim.Native.Nat.{◌≤◌}
use native.Mathlib.Omega.{arith}
use lib.ListN.{length}
use lib.Seq.{length-take-le}
use Rattle.model.specs.Answer.{Result}
use Rattle.answer.specs.Numbers.{answer_of}
use Rattle.text.specs.Text.{line}
use Rattle.route.specs.Printed.{six, answered}
use Rattle.route.proofs.Sheets.{sheet_within}
use Rattle.route.proofs.Printing.{one_line, two_lines}
use Rattle.route.proofs.put_route.Goals.{After-put_answer, After-route-answer}
use Rattle.route.proofs.put_route.Goals as goal

-- the call's result, which is the definition's
abbrev result : After-route-answer → Result
result c = record { answer = answer_of c.route-answer.result; work = c.route-answer.new.work; sheet = c.route-answer.new.sheet }

called : (c : After-route-answer) → result c ≡ answered c.args.input.now
unfolding answered
called c = c.route-answer.ensures.result

-- its sheet is within the area
within : (c : After-put_answer) → c.route-answer.result.sheet_bytes ≤ length c.route-answer.new.sheet
unfolding answered
within c =
    let sheet = rw (← c.route-answer.ensures.result) at (sheet_within c.args.input.now) in
    omega arith

-- the text was empty, so line one is all of it
alone : (c : After-put_answer) → c.put_answer.new.text.items ≡ line (six (answer_of c.route-answer.result))
alone c = rw c.requires at c.put_answer.ensures.put

pub put_answer-requires : goal.put_answer-requires
put_answer-requires c = omega (arith, ap length c.requires)

pub put_places-requires : goal.put_places-requires
put_places-requires c = omega (arith, ap length c.requires, c.put_answer.ensures.short)

pub slice_bounds-sheet-end : goal.slice_bounds-sheet-end
slice_bounds-sheet-end c = within (goal.at.slice_bounds-sheet-end c).After-put_answer

pub slice_bounds-put_places-end : goal.slice_bounds-put_places-end
slice_bounds-put_places-end c = sym (length-take-le _ _ (within (goal.at.slice_bounds-put_places-end c).After-put_answer))

pub returns-then-answer-eq0 : goal.returns-then-answer-eq0
returns-then-answer-eq0 c =
    let at = goal.at.returns-then-answer-eq0 c in
    let call = at.After-route-answer in
    rw (← (called call), two_lines (result call) c.if-answer-eq0.true, ← (alone at.After-put_answer)) c.put_places.ensures

pub returns-else-answer-eq0 : goal.returns-else-answer-eq0
returns-else-answer-eq0 c =
    let at = goal.at.returns-else-answer-eq0 c in
    let call = at.After-route-answer in
    rw (← (called call), one_line (result call) c.if-answer-eq0.false) (alone at.After-put_answer)
