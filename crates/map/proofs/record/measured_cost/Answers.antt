-- `record::measured_cost` meets its contract: a class has its factor, and the product is small. Assumes nothing.
use mathlib.Core.Path.{refl}
use native.Mathlib.Omega.{arith}
use Rattle.model.specs.Stated.{cost_under}
use Rattle.model.proofs.Charges.{class_below}
use Rattle.map.proofs.record.measured_cost.Goals as goal

pub offset_bounds-factors-class : goal.offset_bounds-factors-class
offset_bounds-factors-class c = omega (arith, class_below _ _ c.requires.measure)

pub bounds-factors-class : goal.bounds-factors-class
bounds-factors-class c = omega (arith, class_below _ _ c.requires.measure)

pub overflow_mul-result : goal.overflow_mul-result
unfolding cost_under
overflow_mul-result c = let small = c.requires.cost in record { fits = omega (arith, small) }

pub returns : goal.returns
unfolding cost_under
returns c = refl
