use Rattle.scans.proofs.NextLimit.{limiting_start, limiting_arc, limiting_step, limiting_end}
use Rattle.scans.proofs.row_limit.Goals as goal

pub loop-k-init : goal.loop-k-init
loop-k-init c = limiting_start _ _ _ c.requires _ _ _ c.row_start-k.ensures c.row_end-k-end.ensures

pub crossing-best-requires : goal.crossing-best-requires
crossing-best-requires c =
    let arc = limiting_arc _ _ _ c.requires _ _ _ _ c.loop-k.invariant c.loop-k-test.true in
    rw (c.arc.ensures, c.label-d.ensures) arc

pub loop-k-preserved : goal.loop-k-preserved
loop-k-preserved c =
    let crossed = rw (c.arc.ensures, c.label-d.ensures) at c.crossing-best.ensures in
    limiting_step _ _ _ c.requires _ _ _ _ c.loop-k.invariant c.loop-k-test.true _ crossed

pub returns : goal.returns
returns c =
    limiting_end _ _ _ c.requires _ _ _ _ c.loop-k.invariant c.loop-k-test.false
