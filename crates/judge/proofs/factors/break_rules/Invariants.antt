-- The loop's invariant, `RulesWalked`: what is found so far, with what the factors of the classes from this one on will be, is what is found of all.
use Rattle.judge.specs.Factors.{RulesWalked}
use Rattle.judge.proofs.factors.break_rules.Given as goal

abbrev pub invariant-loop-factor : goal.invariant-loop-factor
invariant-loop-factor l = RulesWalked l.factor-items l.wrong l.before l.factor-index
