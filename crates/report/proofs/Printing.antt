-- What is printed of a report: the day's text and then the lines of its goals, put after one another; and the program lends enough records for it.
-- Assumes nothing.
use mathlib.Core.Path.{◌≡◌, refl, sym, ap, subst, ◌∙◌}
use mathlib.Core.Bool.{Bool, true, false, cond, true≢false}
use mathlib.Core.List.{List, [], ◌++◌}
use Prim.Native.Nat.{ℕ, zero, suc, ◌≤◌}
use native.Mathlib.Omega.{arith}
use lib.Dec.{ltb}
use lib.ListN.{length, replicate, length-replicate}
use borrow.Author.Tests.{le-ltb}
use Rattle.model.specs.Limits.{max_places}
use Rattle.tally.specs.declared.Tally.{Tally}
use Rattle.jobs.specs.declared.Day.{Day}
use Rattle.jobs.specs.declared.Status.{Status}
use Rattle.jobs.specs.declared.Status.TheVariants.{TooLong, ShortTally}
use Rattle.jobs.specs.Entries.{entries}
use Rattle.jobs.specs.Figures.{results}
use Rattle.day.specs.Host.{status_number}
use Rattle.jobs.specs.Report.{too_long, figures, without, DayResult, unchanged, after_jobs, report, Reports}
use Rattle.report.specs.Printed.{goal_line, goal_lines, day_text, goals_text, text_of, no_tally, reported, PutWithin}

-- goals that no route ends at have no lines
no_lines : (n : ℕ) → goal_lines (replicate n no_tally) ≡ []
unfolding goal_lines goal_line
no_lines zero = refl
no_lines (suc n) = no_lines n

-- a result whose tally has the lines that are printed of it, and no others
abbrev LinesPrinted : DayResult → Type 0
LinesPrinted r = goal_lines r.tally ≡ goals_text r.day.status r.tally

module _ (input work sheet : List ℕ) (tally : List Tally) where
  abbrev kept : Status → DayResult
  kept s = unchanged s work sheet tally

  abbrev after : DayResult
  after = after_jobs (results (entries input) work sheet) work sheet tally

  -- so it is of each report, where the tally lent has no lines: one that is left as it was is not printed
  lines_printed : goal_lines tally ≡ [] → LinesPrinted (report input work sheet tally)
  unfolding report unchanged without after_jobs figures goals_text
  lines_printed none = by_input (too_long input)
    where
      by_tally : (t : Bool) → LinesPrinted (cond t (kept ShortTally) after)
      by_tally true = none
      by_tally false = refl

      by_input : (t : Bool) → LinesPrinted (cond t (kept TooLong) (cond (ltb (length tally) max_places) (kept ShortTally) after))
      by_input true = none
      by_input false = by_tally (ltb (length tally) max_places)

  -- a tally of enough records is never too short
  not_short : max_places ≤ length tally → (report input work sheet tally).day.status ≡ ShortTally → ⊥
  unfolding report unchanged without after_jobs figures status_number
  not_short enough = by_input (too_long input)
    where
      by_tally : (t : Bool) → t ≡ false → (cond t (kept ShortTally) after).day.status ≡ ShortTally → ⊥
      by_tally true fails e = true≢false fails
      by_tally false fails e = let numbers = ap status_number e in omega (arith, numbers)

      by_input : (t : Bool) → (cond t (kept TooLong) (cond (ltb (length tally) max_places) (kept ShortTally) after)).day.status ≡ ShortTally → ⊥
      by_input true e = let numbers = ap status_number e in omega (arith, numbers)
      by_input false e = by_tally (ltb (length tally) max_places) (le-ltb _ _ enough) e

-- The number 15 for a tally that is too short never comes in the program: as many records are lent as the tally needs.
pub never_short : (input : List ℕ) → (reported input).day.status ≡ ShortTally → ⊥
unfolding reported
never_short input = not_short input _ _ _ (let long = length-replicate max_places no_tally in omega (arith, long))

-- the day's text, and after it the lines of the tally that the report left, are all its text
pub all_put : {input work sheet : List ℕ} {tally : List Tally} {d : Day} {work' sheet' : List ℕ} {tally' : List Tally} {old mid text : List ℕ}
    {room : ℕ} (n : ℕ) → tally ≡ replicate n no_tally → Reports input work sheet tally d work' sheet' tally'
    → old ≡ [] → PutWithin room (day_text d.status d) old mid → text ≡ mid ++ goal_lines tally'
    → text ≡ text_of (report input work sheet (replicate n no_tally))
unfolding text_of
all_put {input} {work} {sheet} {tally} {d} {work'} {sheet'} {tally'} {old} {mid} {text} {room} n are told empty day-put goals_put =
    let none = subst (λ (ts : List Tally). goal_lines ts ≡ []) (sym are) (no_lines n) in
    let lines : goal_lines tally' ≡ goals_text d.status tally'
    = subst LinesPrinted (sym told.result) (lines_printed input work sheet tally none) in
    let front : mid ≡ day_text d.status d = day-put.put ∙ ap (λ (t : List ℕ). t ++ day_text d.status d) empty in
    goals_put ∙ ap (λ (t : List ℕ). t ++ goal_lines tally') front ∙ ap (λ (g : List ℕ). day_text d.status d ++ g) lines
    ∙ ap text_of (told.result ∙ ap (report input work sheet) are)
