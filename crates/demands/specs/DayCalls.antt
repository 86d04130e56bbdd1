-- The report's two calls as programs: what the contract of each lets a call come to.
use Rattle.std.specs.Prelude.{◌≡◌, List, ℕ, ◌≤◌, length, take}
use Rattle.jobs.specs.Report.{DayResult, Reports}
use Rattle.day.specs.Host.{status_number, figure_count, figures_of, ReportsFor}
use Rattle.day.specs.Calls.{DayCall}

-- day::report
abbrev pub ReportsDay : DayCall → DayResult → Type 0
ReportsDay c r = Reports c.input c.work c.sheet c.tally r.day r.work r.sheet r.tally

-- r3_report: the number of r's status, all that was lent as r has it, and r's figures in lent numbers that have room for them
pub record ExportsDay (c : DayCall) (r : DayResult) : Type 0 where
  pub lent : List ℕ
  pub figures : List ℕ
  pub room : figure_count ≤ length lent
  pub figures_are : take figure_count figures ≡ figures_of r.day
  pub contract : ReportsFor c.input c.work c.sheet c.tally lent (status_number r.day.status) r.work r.sheet r.tally figures
