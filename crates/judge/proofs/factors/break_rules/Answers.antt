use native.Mathlib.Omega.{arith}
use Rattle.judge.proofs.FactorLaws.{rules_begin, rules_again, rules_end}
use Rattle.judge.proofs.factors.break_rules.Goals as goal

pub loop-factor-init : goal.loop-factor-init
loop-factor-init c = rules_begin _

pub loop-factor-preserved : goal.loop-factor-preserved
loop-factor-preserved c = rules_again c.told-factors c.loop-factor.invariant (omega arith)

pub returns : goal.returns
returns c = rules_end c.told-factors c.loop-factor.invariant (omega arith)
