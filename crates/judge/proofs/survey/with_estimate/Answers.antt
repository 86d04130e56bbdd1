-- `survey::with_estimate` meets its contract: the number goes by the mark that was met. Assumes nothing.
use mathlib.Core.Path.{◌∙◌}
use Rattle.judge.specs.Survey.{noted, again_in, marks_by}
use Rattle.judge.proofs.survey.with_estimate.Goals as goal

pub returns : goal.returns
unfolding noted again_in marks_by
returns c =
    let mark = c.mark-again.ensures in
    record { survey = c.after.ensures ∙ rw (c.estimate_refusal.ensures, mark.before); mark = mark.after }
