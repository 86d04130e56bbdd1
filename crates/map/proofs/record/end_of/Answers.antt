-- `record::end_of` meets its contract: an arc, an estimate and a wait end where they say. Assumes nothing.
use native.Mathlib.Omega.{arith}
use Rattle.map.specs.Items.{end_by}
use Rattle.map.proofs.record.end_of.Goals as goal

pub overflow_add-result : goal.overflow_add-result
unfolding end_by
overflow_add-result c = omega (arith, rw c.in-Lane.is at c.requires)

pub overflow_add-result-in-Measured : goal.overflow_add-result-in-Measured
unfolding end_by
overflow_add-result-in-Measured c = omega (arith, rw c.in-Measured.is at c.requires)

pub overflow_add-result-in-Estimate : goal.overflow_add-result-in-Estimate
unfolding end_by
overflow_add-result-in-Estimate c = omega (arith, rw c.in-Estimate.is at c.requires)

pub overflow_add-result-in-Wait : goal.overflow_add-result-in-Wait
unfolding end_by
overflow_add-result-in-Wait c = omega (arith, rw c.in-Wait.is at c.requires)

pub returns-in-Lane : goal.returns-in-Lane
unfolding end_by
returns-in-Lane c = rw c.in-Lane.is at c.requires

pub returns-in-Measured : goal.returns-in-Measured
unfolding end_by
returns-in-Measured c = rw c.in-Measured.is at c.requires

pub returns-in-Estimate : goal.returns-in-Estimate
unfolding end_by
returns-in-Estimate c = rw c.in-Estimate.is at c.requires

pub returns-in-Wait : goal.returns-in-Wait
unfolding end_by
returns-in-Wait c = rw c.in-Wait.is at c.requires
