-- No loop: the six numbers are of 32 bits, so the line is short. Assumes nothing.
use mathlib.Core.Path.{ap}
use native.Mathlib.Omega.{arith}
use lib.ListN.{length, length-append}
use borrow.Author.Rules.{rules}
use Rattle.std.proofs.Common.{tests}
use Rattle.text.specs.Text.{line}
use Rattle.text.proofs.Lines.{line-length, room_for_narrow, line_given, widened, YieldsList-from_array}
use Rattle.answer.specs.Numbers.{answer_of}
use Rattle.route.specs.Printed.{six}
use Rattle.route.proofs.put_answer.Goals as goal

pub push_line-requires : goal.push_line-requires
push_line-requires c =
    let xs = six (answer_of c.args.answer) in
    (search rules, (search rules, (search rules, room_for_narrow (widened _ (YieldsList-from_array xs cc) c.map.ensures.closure (λ x r q k. search (rules, tests))) (search rules) _ _ (omega arith))))

pub returns : goal.returns
returns c =
    let xs = six (answer_of c.args.answer) in
    let short = line-length xs (search rules) in
    let put = line_given (widened _ (YieldsList-from_array xs cc) c.map.ensures.closure (λ x r q k. search (rules, tests))) _ c.push_line.ensures in
    record { put = put; short = omega (arith, ap length put, length-append c.args.text.now.items (line xs)) }
