-- No loop: what is put stands for the status that is matched, and where there is a report the figures stand after the counts. Assumes nothing.
use mathlib.Core.Path.{◌≡◌}
use native.Mathlib.Omega.{arith}
use lib.ListN.{length}
use Rattle.std.proofs.Common.{Some}
use Rattle.std.proofs.lemmas.Iterator.Adapters.{YieldsList-from_once}
use Rattle.jobs.specs.Report.{numbers}
use borrow.Author.Rules.{rules}
use Rattle.text.proofs.Lines.{room_for_narrow, line_given}
use Rattle.report.proofs.Lines.{too_long_lem, short_tally, reported}
use Rattle.report.proofs.put_day.Goals as goal

pub returns-in-TooLong : goal.returns-in-TooLong
returns-in-TooLong c = too_long_lem _ _ _ c.in-TooLong.is c.push_bytes.ensures

pub push_line-requires : goal.push_line-requires
push_line-requires c =
    (search rules, (search rules, (search rules, room_for_narrow (YieldsList-from_once (Some 15) cc) (search rules) _ _ (omega arith))))

pub returns-in-ShortTally : goal.returns-in-ShortTally
returns-in-ShortTally c =
    short_tally _ _ _ c.in-ShortTally.is (line_given (YieldsList-from_once (Some 15) cc) _ c.push_line.ensures)

pub returns-in-Reported : goal.returns-in-Reported
returns-in-Reported c =
    let told = c.in-Reported.is in
    let all : length c.args.day.counts ≡ numbers = search rules in
    reported _ _ _ told all c.put_counts.ensures c.put_figures.ensures
