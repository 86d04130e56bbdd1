-- `out` is the arc's sum, or the largest word where its end has a label; the lesser of it and `least` is returned. Assumes nothing.
use mathlib.Core.Bool.{cond}
use native.Mathlib.Omega.{arith}
use lib.Dec.{ltb}
use Rattle.std.proofs.Common.{◌≡◌, ℕ, min}
use Rattle.std.proofs.lemmas.Bool.Decides.{nat_tests}
use Rattle.scans.specs.Scans.{Crossed}
use Rattle.scans.proofs.NextLimit.{not_crossed, crossed}
use Rattle.scans.proofs.crossing.Goals.{Joined-label, then-label, else-label}
use Rattle.scans.proofs.crossing.Goals as goal

lowered : (c : Joined-label) → (let a = c.args in Crossed a.site a.d a.x a.least a.work.now (cond (ltb c.if-label.out a.least) c.if-label.out a.least))
lowered c =
    let end = c.arc_end-v.ensures in
    let label = rw end at c.label-label.ensures in
    let cost = c.arc_cost.ensures in
    let estimate = rw end at c.estimate.ensures in
    elim c.if-label.branch [
      | then-label w ↦ crossed _ _ _ _ _ _ c.requires (rw label at w.if-label.true) (rw (cost, estimate) at w.out-is)
      | else-label w ↦ not_crossed _ _ _ _ _ _ c.requires (omega (arith, c.ranges.least)) (rw label at w.if-label.false) w.out-is
    ]

min_is : (a b : ℕ) → min a b ≡ cond (ltb a b) a b
min_is a b = grind (arith, nat_tests)

pub returns : goal.returns
returns c = rw (c.min.ensures, min_is c.if-label.out c.args.least) (lowered (goal.at.returns c).Joined-label)
