use mathlib.Core.Path.{◌≡◌, ◌∙◌}
use native.Mathlib.Omega.{arith}
use Rattle.map.proofs.Factors.{one_factor_more, all_factors}
use Rattle.map.proofs.record.factors_at.Goals as goal

pub loop-class-preserved : goal.loop-class-preserved
loop-class-preserved c =
    let read = c.from.ensures ∙ c.u16_at.ensures in
    rw read (one_factor_more _ _ c.loop-class.class (omega arith) c.loop-class.invariant)

pub returns : goal.returns
returns c =
    let all : c.loop-class.class ≡ 8 = omega arith in
    c.loop-class.invariant ∙ rw all (all_factors _ _)
