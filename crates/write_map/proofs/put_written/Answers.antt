-- No loop: the map for 0, or the number in a line. Assumes nothing.
use mathlib.Core.Path.{ap}
use native.Mathlib.Omega.{arith}
use lib.ListN.{length}
use borrow.Author.Rules.{rules}
use Rattle.std.proofs.Common.{Some}
use Rattle.std.proofs.lemmas.Iterator.Adapters.{YieldsList-from_once}
use Rattle.text.proofs.Lines.{room_for_narrow, line_given}
use Rattle.write_map.proofs.Printing.{map_front, number_line}
use Rattle.write_map.proofs.put_written.Goals as goal

pub push_line-requires : goal.push_line-requires
push_line-requires c =
    (search rules, (search rules, (search rules, room_for_narrow (YieldsList-from_once (Some c.write-answer.result.number) cc) (search rules) _ _ (omega (arith, ap length c.new-line.ensures)))))

pub returns-then-answer-ne0 : goal.returns-then-answer-ne0
returns-then-answer-ne0 c =
    let call = c.write-answer in
    let put = line_given (YieldsList-from_once (Some call.result.number) cc) _ c.push_line.ensures in
    rw (put, c.new-line.ensures) (number_line (search rules) call.ensures c.if-answer-ne0.true)

pub returns : goal.returns
returns c =
    let call = c.write-answer in
    map_front (search rules) call.ensures c.if-answer-ne0.false
