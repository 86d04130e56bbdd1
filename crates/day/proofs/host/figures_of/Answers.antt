use mathlib.Core.Path.{◌≡◌, ◌∙◌}
use native.Mathlib.Omega.{arith}
use borrow.Author.Rules.{rules}
use Rattle.jobs.specs.Report.{numbers}
use Rattle.day.proofs.Telling.{one_count_more, all_figures}
use Rattle.day.proofs.host.figures_of.Goals as goal

pub loop-n-preserved : goal.loop-n-preserved
loop-n-preserved c =
    let l = c.loop-n in
    rw c.from-in-loop-n.ensures (one_count_more c.args.day (search rules) l.n (omega arith) l.invariant)

pub returns : goal.returns
returns c =
    let l = c.loop-n in
    let all : l.n ≡ numbers = omega arith in
    l.invariant ∙ rw all (all_figures c.args.day (search rules))
