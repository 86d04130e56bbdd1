-- The figures of a report as they go to a host: numbers put one by one into a list, and what is there when all are.
use mathlib.Core.Path.{◌≡◌, refl, ap, ◌∙◌}
use mathlib.Core.List.{List, ◌∷◌, append-nil}
use Prim.Native.Nat.{ℕ, ◌+◌, ◌<◌}
use native.Mathlib.Omega.{arith}
use lib.ListN.{length, get_or, set, replicate}
use lib.Seq.{paste, take_all}
use Rattle.model.proofs.Lists.{one_more}
use Rattle.tally.specs.declared.Tally.{Tally}
use Rattle.jobs.specs.declared.Day.{Day}
use Rattle.day.specs.Host.{status_number, figures_of, figures_over, Told, ReportsFor}
use Rattle.jobs.specs.Report.{numbers, DayResult, Reports}

-- ---- The list of the figures

-- the totals, and no counts yet
abbrev pub uncounted : Day → List ℕ
uncounted d = d.cost ∷ d.largest ∷ d.expansions ∷ replicate numbers 0

module _ (d : Day) (long : length d.counts ≡ numbers) where
  pub one_count_more : (n : ℕ) {now : List ℕ} → n < numbers → now ≡ paste (uncounted d) 3 d.counts n
      → set now (3 + n) (get_or d.counts n 0) ≡ paste (uncounted d) 3 d.counts (n + 1)
  one_count_more n small are = one_more (uncounted d) 3 d.counts n refl (omega arith) (omega arith) are

  pub all_figures : paste (uncounted d) 3 d.counts numbers ≡ figures_of d
  unfolding figures_of
  all_figures =
      rw (take_all numbers d.counts (omega arith))
      (ap (λ (l : List ℕ). d.cost ∷ d.largest ∷ d.expansions ∷ l) (append-nil d.counts))

-- ---- What the call for a host promises

-- the day that is reported is the day that is told
pub reported : {input work₀ sheet₀ : List ℕ} {tally₀ : List Tally} {figures₀ : List ℕ} {d : Day} {r : ℕ}
    {work sheet : List ℕ} {tally : List Tally} {figures : List ℕ} → Reports input work₀ sheet₀ tally₀ d work sheet tally → Told d figures₀ r figures
    → ReportsFor input work₀ sheet₀ tally₀ figures₀ r work sheet tally figures
reported {figures₀ = figures₀} reports told =
    let e = reports.result in
    record {
      gives = told.gives ∙ ap (λ (x : DayResult). status_number x.day.status) e;
      leaves_work = ap (λ (x : DayResult). x.work) e;
      leaves_sheet = ap (λ (x : DayResult). x.sheet) e;
      leaves_tally = ap (λ (x : DayResult). x.tally) e;
      leaves_figures = told.leaves ∙ ap (λ (x : DayResult). figures_over x.day figures₀) e;
    }
