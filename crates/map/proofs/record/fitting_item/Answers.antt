-- `record::fitting_item` meets its contract, kind by kind: the kind says how long the body is. Assumes nothing.
use mathlib.Core.Path.{sym, ◌∙◌}
use mathlib.Core.Bool.{true≢false}
use Rattle.map.proofs.Items.{body_within, lane_says, measured_says, estimate_says, wait_says, factors_says, default_says, head_says, job_says}
use Rattle.map.proofs.Items.{other_says, lane_fits, measured_fits, estimate_fits, wait_fits, factors_fits, default_fits, head-fits}
use Rattle.map.proofs.record.fitting_item.Goals as goal

pub lane_at-requires : goal.lane_at-requires
lane_at-requires c = body_within _ _ c.requires.lies _ _ (lane_fits _ _ c.requires c.if-r.true)

pub returns-then-r : goal.returns-then-r
returns-then-r c =
    let f = c.requires in
    lane_says _ _ c.requires.lies (lane_fits _ _ c.requires c.if-r.true) _ c.lane_at.ensures

pub measured_at-requires : goal.measured_at-requires
measured_at-requires c =
    body_within _ _ c.requires.lies _ _ (measured_fits _ _ c.requires c.if-r-2.true)

pub returns-then-r-2 : goal.returns-then-r-2
returns-then-r-2 c =
    measured_says _ _ c.requires.lies (measured_fits _ _ c.requires c.if-r-2.true) _ c.measured_at.ensures

pub estimate_at-requires : goal.estimate_at-requires
estimate_at-requires c =
    body_within _ _ c.requires.lies _ _ (estimate_fits _ _ c.requires c.if-r-3.true)

pub returns-then-r-3 : goal.returns-then-r-3
returns-then-r-3 c =
    rw c.estimate_at.ensures (estimate_says _ _ c.requires.lies (estimate_fits _ _ c.requires c.if-r-3.true))

pub returns-then-r-len : goal.returns-then-r-len
returns-then-r-len c =
    rw c.wait_at.ensures (wait_says _ _ c.requires.lies c.if-r-len.true)

pub head_at-requires : goal.head_at-requires
head_at-requires c =
    body_within _ _ c.requires.lies _ _ (head-fits _ _ c.requires c.if-r-4.true)

pub returns-then-r-4 : goal.returns-then-r-4
returns-then-r-4 c =
    rw c.head_at.ensures (head_says _ _ c.requires.lies (head-fits _ _ c.requires c.if-r-4.true))

pub returns-then-r-5 : goal.returns-then-r-5
returns-then-r-5 c =
    rw c.job_at.ensures (job_says _ _ c.requires.lies c.if-r-5.true)

pub returns-then-r-len-2 : goal.returns-then-r-len-2
returns-then-r-len-2 c =
    factors_says _ _ c.requires.lies c.if-r-len-2.true

pub returns-then-r-len-3 : goal.returns-then-r-len-3
returns-then-r-len-3 c =
    rw c.u32_at.ensures (default_says _ _ c.requires.lies c.if-r-len-3.true)

pub returns : goal.returns
returns c =
    other_says _ _ c.requires.lies c.if-r-4.false c.if-r.false c.if-r-3.false c.if-r-5.false c.if-r-2.false
    (λ k. true≢false (sym (wait_fits _ _ c.requires k) ∙ c.if-r-len.false)) (λ k. true≢false (sym (factors_fits _ _ c.requires k) ∙ c.if-r-len-2.false))
    (λ k. true≢false (sym (default_fits _ _ c.requires k) ∙ c.if-r-len-3.false))
