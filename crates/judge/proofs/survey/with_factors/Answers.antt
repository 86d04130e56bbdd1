-- `survey::with_factors` meets its contract: the fields are what the calls give. Assumes nothing.
use mathlib.Core.Path.{refl}
use Rattle.judge.specs.Survey.{with_factors}
use Rattle.judge.proofs.survey.with_factors.Goals as goal

pub returns : goal.returns
unfolding with_factors
returns c = rw (c.after-t.ensures, c.headless.ensures, c.first_table-t.ensures) refl
