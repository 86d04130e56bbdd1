-- `verdict::judge_job` meets its contract: one law for each answer.
use mathlib.Core.Path.{refl}
use Rattle.std.proofs.lemmas.Result.{err_from_is_err_and}
use Rattle.judge.proofs.JudgeJob.{goals_refused, accepted}
use Rattle.judge.proofs.verdict.judge_job.Goals as goal

pub returns-in_err-judge_goals : goal.returns-in_err-judge_goals
returns-in_err-judge_goals c =
    let p = err_from_is_err_and c.from_residual.result c.from_residual.ensures.1 in
    rw (p.1, p.2) (goals_refused _ _ _ c.requires _ c.of-g.ensures _ refl _ c.wrong_goals.ensures _ c.in_err-judge_goals.ensures _ refl)

pub returns : goal.returns
returns c =
    let job = c.new.ensures in
    accepted _ _ _ c.requires _ c.of-g.ensures _ refl _ c.wrong_goals.ensures _ c.in_ok-judge_goals.ensures refl _ job.0 job.1 job.2 job.3 job.4 job.5
