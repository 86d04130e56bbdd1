-- `survey::with_default` meets its contract: the fields are what the calls give. Assumes nothing.
use mathlib.Core.Path.{refl}
use Rattle.judge.specs.Survey.{with_default}
use Rattle.judge.proofs.survey.with_default.Goals as goal

pub returns : goal.returns
unfolding with_default
returns c = rw (c.after-t.ensures, c.default_refusal.ensures, c.first_default.ensures) refl
