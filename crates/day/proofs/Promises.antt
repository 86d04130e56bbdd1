-- The promises of the day's report, of a program: `P c r` says that the call c may come to r, as the program's promise has it. They hold of every
-- program that keeps to the definition `report`, for every input and all that may be lent.
-- Each promise is a field beside its sentence in document 02, paper 6; the proofs stand under them. Assumes nothing.
use mathlib.Core.Path.{◌≡◌, refl, sym, ap, subst⁻¹, ◌∙◌}
use mathlib.Core.Logic.{◌↔◌, ◌⊎◌, inl, inr}
use mathlib.Core.Bool.{Bool, true, false, cond, ◌||◌}
use mathlib.Core.List.{List, [], ◌∷◌, ◌++◌, map, Memᴰ}
use Prim.Native.Nat.{ℕ, ◌+◌, ◌≤◌, ◌<◌}
use native.Mathlib.Omega.{arith}
use lib.Dec.{ltb}
use borrow.Author.Tests.{ne_eqb, ltb-true, ltb-false}
use lib.ListN.{length, drop, get_or}
use Rattle.model.specs.Answer.{Result, answer, refused_with, route}
use Rattle.model.specs.Calls.{Alike, KeepsTo}
use Rattle.model.specs.Framing.{Record, frame}
use Rattle.model.specs.Limits.{max_places}
use Rattle.model.specs.Lists.{filter}
use Rattle.model.specs.Sums.{sum_below, sum_over}
use Rattle.tally.specs.declared.Tally.{Tally}
use Rattle.jobs.specs.declared.Status.{Status}
use Rattle.jobs.specs.declared.Status.TheVariants.{TooLong, ShortTally, Reported}
use Rattle.day.specs.Host.{status_number}
use Rattle.jobs.specs.Entries.{alone, refused, is_job, before_job, from_job, entries}
use Rattle.jobs.specs.Figures.{results, has_number, count, arrivals, arrival_of, total_cost, total_expansions}
use Rattle.day.specs.Calls.{DayCall, reported, Reporter, record_for}
use Rattle.jobs.specs.Report.{max_input, max_entries, numbers, too_long, figures, without, tally_of, tallied, DayResult, unchanged, after_jobs, report}
use Rattle.model.proofs.Sums.{sum_same}
use Rattle.jobs.proofs.Bounded.{Bounded}
use Rattle.jobs.proofs.ByKey.{values_length, value_at, value_before, others_behind}
use Rattle.jobs.proofs.FigureLaws as laws
use Rattle.jobs.proofs.EntryLaws.{all_sound, alone_records}
use Rattle.jobs.proofs.ResultLaws.{results_bounded, results-length, each_alone, each_refused}
use Rattle.day.proofs.LargestDay.{largest_day}

-- How a call ends.
pub record Ends (c : DayCall) (r : DayResult) : Type 0 where
  -- "More than 1,000 records after the map, a broken tail being one, or more than 65,536 bytes", looked for first
  pub too_long_lem : (r.day.status ≡ TooLong) ↔ ((max_input < length c.input) ⊎ (max_entries < length (entries c.input)))
  -- "Fewer than 4,096 records get 15 before any job"
  pub short_tally : (r.day.status ≡ ShortTally) ↔ ((r.day.status ≡ TooLong → ⊥) × (length c.tally < max_places))
  -- "with nothing lent changed"
  pub unchanged : (r.day.status ≡ Reported → ⊥) → (r.work ≡ c.work) × (r.sheet ≡ c.sheet) × (r.tally ≡ c.tally)

-- What a report says.
pub record Says (c : DayCall) (r : DayResult) : Type 0 where
  -- what the jobs came to, one after another
  pub came : List Result
  pub one_each : length came ≡ length (entries c.input)
  -- "runs each as if it were alone with the map": in all seven numbers and the sheet it is `route` of the map and that job, with the areas as they
  -- were lent
  pub as_alone : (k : ℕ) (i : List ℕ) → k < length came → get_or (entries c.input) k (refused 0) ≡ alone i
      → Alike (get_or came k (route i c.work c.sheet)) (route i c.work c.sheet)
  -- "a later record that is no job counts as one job refused with 10, and a broken tail … as one refused with 1": with zeros besides
  pub as_refused : (k n : ℕ) → k < length came → get_or (entries c.input) k (refused 0) ≡ refused n
      → (get_or came k (refused_with n c.work c.sheet)).answer ≡ answer n 0 0 0 0 0 0
  -- "The map is all records before the first job": what is run is these and one job, and nothing else
  pub map_and_job : (i : List ℕ) → Memᴰ (alone i) (entries c.input)
      → (j : Record) × Memᴰ j (from_job (frame c.input).records) × (is_job j ≡ true)
      × (frame i ≡ record { records = before_job (frame c.input).records ++ (j ∷ []); broken = false })
  -- "A job that is turned down, by 16 too, adds to its number's count and to nothing else": without it, the routes and the expansions are the same
  pub turned_down : (before : List Result) (j : Result) (after : List Result) → came ≡ before ++ (j ∷ after)
      → (j.answer.number ≡ 0 → ⊥) → (j.answer.number ≡ 17 → ⊥)
      → (arrivals came ≡ arrivals (before ++ after)) × (total_expansions came ≡ total_expansions (before ++ after))
  -- "one without a route adds its expansions too"
  pub no_route : (before : List Result) (j : Result) (after : List Result) → came ≡ before ++ (j ∷ after) → j.answer.number ≡ 17
      → (arrivals came ≡ arrivals (before ++ after)) × (total_expansions came ≡ j.answer.expansions + total_expansions (before ++ after))
  -- the figures are of these, and so is the tally
  pub figures_are : r.day ≡ figures came
  pub tally_is : r.tally ≡ tallied (arrivals came) c.tally
  -- counts sum to the number of jobs
  pub counts_sum : sum_below (λ n. get_or r.day.counts n 0) numbers ≡ length (entries c.input)
  -- the tally's routes sum to the jobs that gave a route, and its costs to the total cost
  pub routes_sum : sum_below (λ g. (record_for r g).routes) max_places ≡ get_or r.day.counts 0 0
  pub costs_sum : sum_below (λ g. (record_for r g).cost) max_places ≡ r.day.cost
  -- "later ones stay"
  pub later_stay : drop max_places r.tally ≡ drop max_places c.tally
  -- a day's cost has room in 64 bits, and a goal's cost is no more; expansions have room in 32
  pub cost_at_most : r.day.cost ≤ 268365825000
  pub goal_at_most : (g : ℕ) → g < max_places → (record_for r g).cost ≤ r.day.cost
  pub expansions_at_most : r.day.expansions ≤ 966656000

pub record Promises (P : Reporter) : Type 0 where
  pub ends : (c : DayCall) (r : DayResult) → P c r → Ends c r
  pub reports : (c : DayCall) (r : DayResult) → P c r → r.day.status ≡ Reported → Says c r
  -- a day may cost as much as a day can, at one goal, which 32 bits do not hold
  pub cost_attained : (c : DayCall) × (r : DayResult) × P c r × (r.day.cost ≡ 268365825000) × ((record_for r 4095).cost ≡ 268365825000)

-- ---- The proofs

-- what is passed over has no part in what is chosen
passed_over : (test : Result → Bool) (rs : List Result) (j : Result) (ss : List Result) → test j ≡ false
    → filter test (rs ++ (j ∷ ss)) ≡ filter test (rs ++ ss)
unfolding filter
passed_over test [] j ss no_part = rw no_part
passed_over test (r ∷ rs) j ss no_part = ap (λ (xs : List Result). cond (test r) (r ∷ xs) xs) (passed_over test rs j ss no_part)

-- what is chosen adds its part, wherever it stands
chosen_adds : (f : Result → ℕ) (test : Result → Bool) (rs : List Result) (j : Result) (ss : List Result) → test j ≡ true
    → sum_over f (filter test (rs ++ (j ∷ ss))) ≡ f j + sum_over f (filter test (rs ++ ss))
unfolding filter sum_over
chosen_adds f test [] j ss part = rw part
chosen_adds f test (r ∷ rs) j ss part = go (test r) (chosen_adds f test rs j ss part)
  where
    go : (t : Bool) → sum_over f (filter test (rs ++ (j ∷ ss))) ≡ f j + sum_over f (filter test (rs ++ ss))
        → sum_over f (cond t (r ∷ filter test (rs ++ (j ∷ ss))) (filter test (rs ++ (j ∷ ss))))
        ≡ f j + sum_over f (cond t (r ∷ filter test (rs ++ ss)) (filter test (rs ++ ss)))
    go true later = omega arith
    go false later = later

no_arrival : (rs : List Result) (j : Result) (ss : List Result) → (j.answer.number ≡ 0 → ⊥) → arrivals (rs ++ (j ∷ ss)) ≡ arrivals (rs ++ ss)
unfolding arrivals has_number
no_arrival rs j ss other = ap (map arrival_of) (passed_over (has_number 0) rs j ss (ne_eqb _ _ other))

no_expansions : (rs : List Result) (j : Result) (ss : List Result) → (j.answer.number ≡ 0 → ⊥) → (j.answer.number ≡ 17 → ⊥)
    → total_expansions (rs ++ (j ∷ ss)) ≡ total_expansions (rs ++ ss)
unfolding total_expansions has_number
no_expansions rs j ss other else = ap (sum_over _) (passed_over _ rs j ss (simp (ne_eqb _ _ other, ne_eqb _ _ else)))

own_expansions : (rs : List Result) (j : Result) (ss : List Result) → j.answer.number ≡ 17
    → total_expansions (rs ++ (j ∷ ss)) ≡ j.answer.expansions + total_expansions (rs ++ ss)
unfolding total_expansions has_number
own_expansions rs j ss is = chosen_adds _ _ rs j ss (rw is refl)

-- the three ways in which a report ends
data Way (c : DayCall) : DayResult → Type 0 where
  long : (max_input < length c.input) ⊎ (max_entries < length (entries c.input))
      → Way c (unchanged TooLong c.work c.sheet c.tally)
  short : length c.input ≤ max_input → length (entries c.input) ≤ max_entries → length c.tally < max_places
      → Way c (unchanged ShortTally c.work c.sheet c.tally)
  whole : length c.input ≤ max_input → length (entries c.input) ≤ max_entries → max_places ≤ length c.tally
      → Way c (after_jobs (results (entries c.input) c.work c.sheet) c.work c.sheet c.tally)

way : (c : DayCall) → Way c (reported c)
unfolding report too_long
way c = by_input (ltb max_input (length c.input)) refl
  where
    rs : List Result
    rs = results (entries c.input) c.work c.sheet

    kept : Status → DayResult
    kept s = unchanged s c.work c.sheet c.tally

    by_tally : length c.input ≤ max_input → length (entries c.input) ≤ max_entries → (t : Bool) → ltb (length c.tally) max_places ≡ t
        → Way c (cond t (kept ShortTally) (after_jobs rs c.work c.sheet c.tally))
    by_tally h g true e = short h g (ltb-true _ _ e)
    by_tally h g false e = whole h g (ltb-false _ _ e)

    by_entries : length c.input ≤ max_input → (t : Bool) → ltb max_entries (length (entries c.input)) ≡ t
        → Way c (cond t (kept TooLong) (cond (ltb (length c.tally) max_places) (kept ShortTally) (after_jobs rs c.work c.sheet c.tally)))
    by_entries h true e = long (inr (ltb-true _ _ e))
    by_entries h false e = by_tally h (ltb-false _ _ e) (ltb (length c.tally) max_places) refl

    by_input : (t : Bool) → ltb max_input (length c.input) ≡ t
        → Way c (cond (t || ltb max_entries (length (entries c.input))) (kept TooLong)
        (cond (ltb (length c.tally) max_places) (kept ShortTally) (after_jobs rs c.work c.sheet c.tally)))
    by_input true e = long (inl (ltb-true _ _ e))
    by_input false e = by_entries (ltb-false _ _ e) (ltb max_entries (length (entries c.input))) refl

-- statuses of different numbers are different
differ : {s t : Status} → (status_number s ≡ status_number t → ⊥) → s ≡ t → ⊥
differ numbers e = numbers (ap status_number e)

module _ (c : DayCall) where
  not_long : length c.input ≤ max_input → length (entries c.input) ≤ max_entries
      → (max_input < length c.input) ⊎ (max_entries < length (entries c.input)) → ⊥
  not_long h g (inl x) = omega arith
  not_long h g (inr x) = omega arith

  ends_by : (r : DayResult) → Way c r → Ends c r
  unfolding unchanged after_jobs without figures status_number
  ends_by r (long h) = record {
    too_long_lem = (λ e. h, λ e. refl);
    short_tally = (λ e. absurd (differ (λ n. omega arith) e), λ (e, g). absurd (e refl));
    unchanged = λ e. (refl, refl, refl);
  }
  ends_by r (short h g l) = record {
    too_long_lem = (λ e. absurd (differ (λ n. omega arith) e), λ e. absurd (not_long h g e));
    short_tally = (λ e. (λ f. differ (λ n. omega arith) f, l), λ e. refl);
    unchanged = λ e. (refl, refl, refl);
  }
  ends_by r (whole h g l) = record {
    too_long_lem = (λ e. absurd (differ (λ n. omega arith) e), λ e. absurd (not_long h g e));
    short_tally = (λ e. absurd (differ (λ n. omega arith) e), λ (e, f). absurd (omega arith));
    unchanged = λ e. absurd (e refl);
  }

  -- a report: of what the entries come to
  module _ (few : length (entries c.input) ≤ max_entries) (enough : max_places ≤ length c.tally) where
    came : List Result
    came = results (entries c.input) c.work c.sheet

    abbrev after : DayResult
    after = after_jobs came c.work c.sheet c.tally

    bounded : (s : Result) → Memᴰ s came → Bounded s
    unfolding came
    bounded = results_bounded (entries c.input) (all_sound c.input c.bytes) c.work c.sheet

    came_few : length came ≤ max_entries
    unfolding came
    came_few = rw results-length few

    -- record g of the tally is the one for g
    record_is : (g : ℕ) → g < max_places → record_for after g ≡ tally_of (arrivals came) g
    unfolding after_jobs tallied
    record_is g less = value_before (tally_of (arrivals came)) max_places (drop max_places c.tally) _ g less

    count_is : (n : ℕ) → n < numbers → get_or (figures came).counts n 0 ≡ count n came
    unfolding figures
    count_is n less = value_at (λ n. count n came) 0 numbers n less

    routes_tallied : sum_below (λ g. (tally_of (arrivals came) g).routes) max_places ≡ count 0 came
    unfolding tally_of
    routes_tallied = laws.routes_sum came bounded

    costs_tallied : sum_below (λ g. (tally_of (arrivals came) g).cost) max_places ≡ total_cost (arrivals came)
    unfolding tally_of
    costs_tallied = laws.costs_sum came bounded

    goal_tallied : (g : ℕ) → (tally_of (arrivals came) g).cost ≤ total_cost (arrivals came)
    unfolding tally_of
    goal_tallied g = laws.goal_cost_at_most g (arrivals came)

    others_stay : drop max_places after.tally ≡ drop max_places c.tally
    unfolding after_jobs tallied
    others_stay = others_behind (tally_of (arrivals came)) max_places (drop max_places c.tally)

    reports_by : Says c after
    unfolding came after_jobs figures
    reports_by = record {
      came = came;
      one_each = results-length (entries c.input) c.work c.sheet;
      as_alone = λ k i l is. each_alone (entries c.input) c.work c.sheet (all_sound c.input c.bytes) k i (rw results-length at l) is;
      as_refused = λ k n l is. each_refused _ (entries c.input) c.work c.sheet k n (rw results-length at l) is;
      map_and_job = alone_records c.input;
      turned_down = λ rs j ss is other else. rw is (no_arrival rs j ss other, no_expansions rs j ss other else);
      no_route = λ rs j ss is n. rw is (no_arrival rs j ss (λ e. omega arith), own_expansions rs j ss n);
      figures_are = refl;
      tally_is = refl;
      counts_sum = sum_same _ _ numbers count_is ∙ laws.counts_sum came bounded ∙ results-length (entries c.input) c.work c.sheet;
      routes_sum = sum_same _ _ max_places (λ g l. ap (λ (t : Tally). t.routes) (record_is g l)) ∙ routes_tallied ∙ sym (count_is 0 (omega arith));
      costs_sum = sum_same _ _ max_places (λ g l. ap (λ (t : Tally). t.cost) (record_is g l)) ∙ costs_tallied;
      later_stay = others_stay;
      cost_at_most = omega (arith, laws.total_cost_at_most came bounded, came_few);
      goal_at_most = λ g l. rw (record_is g l) (goal_tallied g);
      expansions_at_most = omega (arith, laws.expansions_at_most came bounded, came_few);
    }

reports_where : (c : DayCall) (r : DayResult) → Way c r → r.day.status ≡ Reported → Says c r
unfolding unchanged without status_number came
reports_where c r (long h) e = absurd (differ (λ n. omega arith) e)
reports_where c r (short h g l) e = absurd (differ (λ n. omega arith) e)
reports_where c r (whole h g l) e = reports_by c g l

-- a report gives one count for each number, in whatever way it ends
counts_by : (c : DayCall) (r : DayResult) → Way c r → length r.day.counts ≡ numbers
unfolding unchanged without after_jobs figures
counts_by c r (long h) = refl
counts_by c r (short h g l) = refl
counts_by c r (whole h g l) = values_length (λ n. count n (results (entries c.input) c.work c.sheet)) numbers

pub counts_length : (c : DayCall) → length (reported c).day.counts ≡ numbers
counts_length c = counts_by c (reported c) (way c)

-- They hold of every program that keeps to the definition.
pub promises : (P : Reporter) → KeepsTo reported P → Promises P
promises P keeps = record {
  ends = λ c r g. subst⁻¹ (λ x. Ends c x) (keeps.only c r g) (ends_by c (reported c) (way c));
  reports = λ c r g. subst⁻¹ (λ x. x.day.status ≡ Reported → Says c x) (keeps.only c r g) (reports_where c (reported c) (way c));
  cost_attained = let (c, is-reported, cost, at_goal) = largest_day in (c, reported c, keeps.gives c, cost, at_goal);
}
