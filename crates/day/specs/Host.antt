-- A report as a host in C gets it: how it ended as one number, and the figures as a list.
use Rattle.std.specs.Prelude.{◌≡◌, List, ◌∷◌, ℕ, ◌+◌, length, take}
use Rattle.model.specs.Answer.{over_front}
use Rattle.tally.specs.declared.Tally.{Tally}
use Rattle.jobs.specs.declared.Day.{Day}
use Rattle.jobs.specs.declared.Status.{Status}
use Rattle.jobs.specs.declared.Status.TheVariants.{TooLong, ShortTally, Reported}
use Rattle.jobs.specs.Report.{numbers, report}

-- 15 is the paper's number. It gives none to an input that is too long, which gets one that no answer has.
unfoldable pub status_number : Status → ℕ
status_number TooLong = 255
status_number ShortTally = 15
status_number Reported = 0

-- how many figures there are
abbrev pub figure_count : ℕ
figure_count = 3 + numbers

-- total cost, largest cost, total expansions, then the counts by number
unfoldable pub figures_of : Day → List ℕ
figures_of d = d.cost ∷ d.largest ∷ d.expansions ∷ d.counts

-- as many of the figures as there is room for
abbrev pub figures_over : Day → List ℕ → List ℕ
figures_over d figures = over_front (take (length figures) (figures_of d)) figures

pub record Told (d : Day) (figures₀ : List ℕ) (r : ℕ) (figures : List ℕ) : Type 0 where
  pub gives : r ≡ status_number d.status
  pub leaves : figures ≡ figures_over d figures₀

-- The promise of the exported call: the same as of the call, in a host's terms.
pub record ReportsFor (input work₀ sheet₀ : List ℕ) (tally₀ : List Tally) (figures₀ : List ℕ) (r : ℕ)
    (work sheet : List ℕ) (tally : List Tally) (figures : List ℕ) : Type 0 where
  pub gives : r ≡ status_number (report input work₀ sheet₀ tally₀).day.status
  pub leaves_work : work ≡ (report input work₀ sheet₀ tally₀).work
  pub leaves_sheet : sheet ≡ (report input work₀ sheet₀ tally₀).sheet
  pub leaves_tally : tally ≡ (report input work₀ sheet₀ tally₀).tally
  pub leaves_figures : figures ≡ figures_over (report input work₀ sheet₀ tally₀).day figures₀
