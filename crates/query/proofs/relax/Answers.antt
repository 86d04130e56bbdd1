-- An arc passes where its end is labelled less or lies beyond the limit; else its end is arrived at, again where it has that label. Assumes nothing.
use native.Mathlib.Omega.{arith}
use Rattle.query.proofs.Arcs.{relax_arrives, relax_again, relax_falls}
use Rattle.query.proofs.relax.Goals as goal

pub returns-then-label-e-2 : goal.returns-then-label-e-2
returns-then-label-e-2 c =
    rw c.arrive_again.ensures
    (relax_again _ _ _ _ _ c.requires _ _ c.arc_end-v.ensures c.arc_cost.ensures _ _
    (omega (arith, c.label-label.ensures, c.if-label-e-2.true)) (rw c.estimate.ensures at c.if-limit-e.false))

pub arrive-requires : goal.arrive-requires
arrive-requires c =
    relax_arrives _ _ _ _ _ c.requires _ _ c.arc_end-v.ensures c.arc_cost.ensures
    (omega (arith, c.label-label.ensures, c.if-label-e.false, c.if-label-e-2.false))

pub returns : goal.returns
returns c =
    relax_falls _ _ _ _ _ c.requires _ _ c.arc_end-v.ensures c.arc_cost.ensures _ _ _ c.arrive.ensures _
    (omega (arith, c.label-label.ensures, c.if-label-e.false, c.if-label-e-2.false))
    (rw c.estimate.ensures at c.if-limit-e.false)
