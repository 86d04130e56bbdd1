-- All promises of the report hold of its calls, as their contracts give them. Assumes nothing.
use mathlib.Core.Path.{◌≡◌, refl, sym, ap, ◌∙◌}
use mathlib.Core.List.{List}
use Prim.Native.Nat.{ℕ, ◌≤◌}
use native.Mathlib.Omega.{arith}
use lib.ListN.{length, take, get_or, drop, replicate}
use lib.Seq.{take_all, take_at}
use Rattle.model.specs.Answer.{over_front}
use Rattle.model.specs.Calls.{KeepsTo}
use Rattle.tally.specs.declared.Tally.{Tally}
use Rattle.jobs.specs.declared.Day.{Day}
use Rattle.jobs.specs.declared.Status.{Status}
use Rattle.jobs.specs.declared.Status.TheVariants.{TooLong, ShortTally, Reported}
use Rattle.jobs.specs.Report.{DayResult}
use Rattle.day.specs.Host.{status_number, figure_count, figures_of}
use Rattle.day.specs.Calls.{DayCall, reported}
use Rattle.day.proofs.Promises.{counts_length, Promises, promises}
use Rattle.demands.specs.DayCalls.{ReportsDay, ExportsDay}

reports_keeps : KeepsTo reported ReportsDay
reports_keeps = record { gives = λ c. record { result = refl }; only = λ c r g. g.result }

-- All promises hold of day::report.
pub day_promises : Promises ReportsDay
day_promises = promises ReportsDay reports_keeps

-- a status is known by its number
status_known : (s t : Status) → status_number s ≡ status_number t → s ≡ t
unfolding status_number
status_known TooLong TooLong e = refl
status_known TooLong ShortTally e = absurd (omega arith)
status_known TooLong Reported e = absurd (omega arith)
status_known ShortTally TooLong e = absurd (omega arith)
status_known ShortTally ShortTally e = refl
status_known ShortTally Reported e = absurd (omega arith)
status_known Reported TooLong e = absurd (omega arith)
status_known Reported ShortTally e = absurd (omega arith)
status_known Reported Reported e = refl

-- a day is known by its status and its figures
day_known : (d e : Day) → d.status ≡ e.status → figures_of d ≡ figures_of e → d ≡ e
unfolding figures_of
day_known d e status figures =
    let cost : d.cost ≡ e.cost = ap (λ (xs : List ℕ). get_or xs 0 0) figures in
    let largest : d.largest ≡ e.largest = ap (λ (xs : List ℕ). get_or xs 1 0) figures in
    let expansions : d.expansions ≡ e.expansions = ap (λ (xs : List ℕ). get_or xs 2 0) figures in
    let counts : d.counts ≡ e.counts = ap (drop 3) figures in
    ap (λ (x : Status). record { status = x; counts = d.counts; cost = d.cost; largest = d.largest; expansions = d.expansions }) status
    ∙ ap (λ (x : List ℕ). record { status = e.status; counts = x; cost = d.cost; largest = d.largest; expansions = d.expansions }) counts
    ∙ ap (λ (x : ℕ). record { status = e.status; counts = e.counts; cost = x; largest = d.largest; expansions = d.expansions }) cost
    ∙ ap (λ (x : ℕ). record { status = e.status; counts = e.counts; cost = e.cost; largest = x; expansions = d.expansions }) largest
    ∙ ap (λ (x : ℕ). record { status = e.status; counts = e.counts; cost = e.cost; largest = e.largest; expansions = x }) expansions

-- figures in numbers that have room for them
figures_in : (c : DayCall) (lent : List ℕ) → figure_count ≤ length lent
    → let all = figures_of (reported c).day in take figure_count (over_front (take (length lent) all) lent) ≡ all
unfolding over_front figures_of
figures_in c lent room =
    let all = figures_of (reported c).day in
    let size : length all ≡ figure_count = omega (arith, counts_length c) in
    rw (take_all (length lent) all (omega arith)) (take_at all (drop (length all) lent) figure_count size)

exports_keeps : KeepsTo reported ExportsDay
exports_keeps = record {
  gives = λ c.
      let lent : List ℕ = replicate figure_count 0 in
      record {
        lent = lent;
        figures = over_front (take figure_count (figures_of (reported c).day)) lent;
        room = omega arith;
        figures_are = figures_in c lent (omega arith);
        contract = record { gives = refl; leaves_work = refl; leaves_sheet = refl; leaves_tally = refl; leaves_figures = refl };
      };
  only = λ c r g.
      let k = g.contract in
      let status = status_known r.day.status (reported c).day.status k.gives in
      let figures : figures_of r.day ≡ figures_of (reported c).day =
      sym g.figures_are ∙ ap (take figure_count) k.leaves_figures ∙ figures_in c g.lent g.room in
      same_result r (reported c) (day_known r.day (reported c).day status figures) k.leaves_work k.leaves_sheet k.leaves_tally;
}
  where
    same_result : (r s : DayResult) → r.day ≡ s.day → r.work ≡ s.work → r.sheet ≡ s.sheet → r.tally ≡ s.tally → r ≡ s
    same_result r s days works sheets tallies =
        ap (λ (x : Day). record { day = x; work = r.work; sheet = r.sheet; tally = r.tally }) days
        ∙ ap (λ (x : List ℕ). record { day = s.day; work = x; sheet = r.sheet; tally = r.tally }) works
        ∙ ap (λ (x : List ℕ). record { day = s.day; work = s.work; sheet = x; tally = r.tally }) sheets
        ∙ ap (λ (x : List Tally). record { day = s.day; work = s.work; sheet = s.sheet; tally = x }) tallies

-- and of the call that is exported for C.
pub exported_day_promises : Promises ExportsDay
exported_day_promises = promises ExportsDay exports_keeps
