-- `survey::with_item` meets its contract, kind by kind. Assumes nothing.
use mathlib.Core.Path.{refl}
use Rattle.judge.specs.Survey.{noted, again_in, marks_by}
use Rattle.judge.proofs.survey.with_item.Goals as goal

pub returns-in-Head : goal.returns-in-Head
unfolding noted marks_by
returns-in-Head c = rw c.in-Head.is (record { survey = c.with_head.ensures; mark = refl })

pub returns-in-Lane : goal.returns-in-Lane
unfolding noted marks_by
returns-in-Lane c =
    let own = c.cost_refusal.ensures in
    rw c.in-Lane.is (record { survey = rw own at c.with_lane.ensures; mark = refl })

pub returns-in-Measured : goal.returns-in-Measured
unfolding noted marks_by
returns-in-Measured c =
    let own = c.measure_refusal.ensures in
    rw c.in-Measured.is (record { survey = rw own at c.with_lane-in-Measured.ensures; mark = refl })

pub returns-in-Wait : goal.returns-in-Wait
unfolding noted marks_by
returns-in-Wait c = rw c.in-Wait.is (record { survey = c.with_wait.ensures; mark = refl })

pub returns-in-Factors : goal.returns-in-Factors
unfolding noted marks_by
returns-in-Factors c = rw c.in-Factors.is (record { survey = c.with_factors.ensures; mark = refl })

pub returns-in-Default : goal.returns-in-Default
unfolding noted again_in marks_by
returns-in-Default c = rw c.in-Default.is (record { survey = c.with_default.ensures; mark = refl })

pub returns-in-Job : goal.returns-in-Job
unfolding noted marks_by
returns-in-Job c = rw c.in-Job.is (record { survey = c.with_job.ensures; mark = refl })

pub returns-in-Misfit : goal.returns-in-Misfit
unfolding noted marks_by
returns-in-Misfit c = rw c.in-Misfit.is (record { survey = c.after.ensures; mark = refl })

pub returns-in-Other : goal.returns-in-Other
unfolding noted marks_by
returns-in-Other c = rw c.in-Other.is (record { survey = c.after-in-Other.ensures; mark = refl })
