-- No loop: what is put of the report of the input is what is printed of it. Assumes nothing.
use Rattle.report.specs.Printed.{reported, printed}
use Rattle.report.proofs.text_of.Goals as goal

pub returns : goal.returns
unfolding reported printed
returns c = c.put_report.ensures
