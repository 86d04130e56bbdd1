-- `verdict::judge_factors` meets its contract: one law for each answer. Assumes nothing.
use Rattle.judge.proofs.JudgeFactors.{factors_refused, right_factors}
use Rattle.judge.proofs.verdict.judge_factors.Goals as goal

pub returns-then-s-break_rules : goal.returns-then-s-break_rules
returns-then-s-break_rules c =
    factors_refused _ _ _ c.requires c.factors-factors.ensures c.break_rules.ensures c.if-s-break_rules.true

pub judge_costs-requires : goal.judge_costs-requires
judge_costs-requires c =
    right_factors _ _ _ c.requires c.factors-factors.ensures c.break_rules.ensures c.if-s-break_rules.false
