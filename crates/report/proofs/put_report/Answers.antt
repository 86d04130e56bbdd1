-- The lines of the goals are put after the day's text.
use mathlib.Core.Path.{refl}
use Rattle.model.specs.Limits.{max_places}
use Rattle.report.proofs.Printing.{all_put}
use Rattle.report.proofs.put_report.Goals as goal

pub returns : goal.returns
returns c = all_put max_places refl c.report-day.ensures c.requires c.put_day.ensures c.put_goals.ensures
