-- The depth is stored where it is smaller. Assumes nothing.
use mathlib.Core.Path.{sym, ◌∙◌}
use native.Mathlib.Omega.{arith}
use Rattle.query.proofs.Arcs.{again_fewer, again_no_fewer}
use Rattle.query.proofs.arrive_again.Goals as goal

pub returns-then-k-depth : goal.returns-then-k-depth
returns-then-k-depth c =
    c.set_depth.ensures ∙ sym (again_fewer _ _ _ _ (omega (arith, c.depth.ensures, c.if-k-depth.true)))

pub returns-else-k-depth : goal.returns-else-k-depth
returns-else-k-depth c = sym (again_no_fewer _ _ _ _ (omega (arith, c.depth.ensures, c.if-k-depth.false)))
