-- `verdict::judge_costs` meets its contract: one law for each answer. Assumes nothing.
use mathlib.Core.Path.{sym, ◌∙◌}
use Rattle.judge.proofs.JudgeCosts.{fitting, costs_refused, job_refused, one_job}
use Rattle.judge.proofs.verdict.judge_costs.Goals as goal

pub wrong-requires : goal.wrong-requires
wrong-requires c =
    let right = c.requires in
    (fitting _ _ _ _ right (λ i. (c.shared_slice_known-1.given i).fits), right.right.states.waits, right.in_force)

pub returns-then-wrong : goal.returns-then-wrong
returns-then-wrong c =
    costs_refused _ _ _ _ c.requires (sym c.wrong.ensures ∙ c.if-wrong.true)

pub returns-then-s : goal.returns-then-s
returns-then-s c =
    job_refused _ _ _ _ c.requires (sym c.wrong.ensures ∙ c.if-wrong.false) c.if-s.true

pub judge_job-requires : goal.judge_job-requires
judge_job-requires c =
    one_job _ _ _ _ c.requires (sym c.wrong.ensures ∙ c.if-wrong.false) c.if-s.false
