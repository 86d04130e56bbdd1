-- `record::item_of` meets its contract, kind by kind. Assumes nothing.
use Rattle.map.proofs.Items.{lane_says, measured_says, estimate_says, wait_says, factors_says, default_says, head_says, job_says}
use Rattle.map.proofs.Items.{outside_says, none_fits}
use Rattle.map.proofs.record.item_of.Goals as goal

pub returns-then-r-len : goal.returns-then-r-len
returns-then-r-len c = lane_says _ _ c.requires c.if-r-len.true _ c.lane_at.ensures

pub returns-then-r-len-2 : goal.returns-then-r-len-2
returns-then-r-len-2 c =
    measured_says _ _ c.requires c.if-r-len-2.true _ c.measured_at.ensures

pub returns-then-r-len-3 : goal.returns-then-r-len-3
returns-then-r-len-3 c =
    rw c.estimate_at.ensures (estimate_says _ _ c.requires c.if-r-len-3.true)

pub returns-then-r-len-4 : goal.returns-then-r-len-4
returns-then-r-len-4 c =
    rw c.wait_at.ensures (wait_says _ _ c.requires c.if-r-len-4.true)

pub returns-then-r-len-5 : goal.returns-then-r-len-5
returns-then-r-len-5 c =
    rw c.head_at.ensures (head_says _ _ c.requires c.if-r-len-5.true)

pub returns-then-r : goal.returns-then-r
returns-then-r c =
    rw c.job_at.ensures (job_says _ _ c.requires c.if-r.true)

pub returns-then-r-len-6 : goal.returns-then-r-len-6
returns-then-r-len-6 c =
    factors_says _ _ c.requires c.if-r-len-6.true

pub returns-then-r-len-7 : goal.returns-then-r-len-7
returns-then-r-len-7 c =
    rw c.u32_at.ensures (default_says _ _ c.requires c.if-r-len-7.true)

pub returns-then-r-2 : goal.returns-then-r-2
returns-then-r-2 c =
    outside_says _ _ c.requires c.if-r-2.true

pub returns : goal.returns
returns c =
    none_fits _ _ c.requires c.if-r-2.false c.if-r.false c.if-r-len-5.false c.if-r-len.false c.if-r-len-3.false c.if-r-len-2.false
    c.if-r-len-4.false c.if-r-len-6.false c.if-r-len-7.false
