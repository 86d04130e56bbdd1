-- Document 02, paper 6: the call as a whole, from an input and what is lent to the day's figures and all that was lent.
use Rattle.std.specs.Prelude.{◌≡◌, Bool, cond, ◌||◌, List, ◌++◌, map, ℕ, ltb, length, drop, replicate}
use Rattle.model.specs.Lists.{below}
use Rattle.model.specs.Limits.{max_places}
use Rattle.model.specs.Answer.{Result}
use Rattle.tally.specs.declared.Tally.{Tally}
use Rattle.jobs.specs.declared.Day.{Day}
use Rattle.jobs.specs.declared.Status.{Status}
use Rattle.jobs.specs.declared.Status.TheVariants.{TooLong, ShortTally, Reported}
use Rattle.jobs.specs.Entries.{entries}
use Rattle.jobs.specs.Figures.{results, work_after, sheet_after, count, Arrival, arrivals, total_cost, largest_cost, ending_at, total_expansions}

abbrev pub max_input : ℕ
max_input = 65536

abbrev pub max_entries : ℕ
max_entries = 1000

-- the numbers of answers are those below this one
abbrev pub numbers : ℕ
numbers = 23

-- "More than 1,000 records after the map, a broken tail being one, or more than 65,536 bytes"
unfoldable pub too_long : List ℕ → Bool
too_long input = ltb max_input (length input) || ltb max_entries (length (entries input))

-- ---- Figures

unfoldable pub figures : List Result → Day
figures rs =
    record {
      status = Reported;
      counts = map (λ n. count n rs) (below numbers);
      cost = total_cost (arrivals rs);
      largest = largest_cost (arrivals rs);
      expansions = total_expansions rs;
    }

-- where there are none
unfoldable pub without : Status → Day
without s = record { status = s; counts = replicate numbers 0; cost = 0; largest = 0; expansions = 0 }

-- ---- The tally

-- "record g … holds g, its routes and their cost"
unfoldable pub tally_of : List Arrival → ℕ → Tally
tally_of xs g = let there = ending_at g xs in record { goal = g; routes = length there; cost = total_cost there }

-- "for 0 to 4,095 …; later ones stay"
unfoldable pub tallied : List Arrival → List Tally → List Tally
tallied xs tally = map (tally_of xs) (below max_places) ++ drop max_places tally

-- ---- The call

-- what a call gives back, and what it leaves in all that was lent
pub record DayResult : Type 0 where
  pub day : Day
  pub work : List ℕ
  pub sheet : List ℕ
  pub tally : List Tally

-- "with nothing lent changed"
unfoldable pub unchanged : Status → (work sheet : List ℕ) → List Tally → DayResult
unchanged s work sheet tally = record { day = without s; work = work; sheet = sheet; tally = tally }

unfoldable pub after_jobs : List Result → (work sheet : List ℕ) → List Tally → DayResult
after_jobs rs work sheet tally =
    record { day = figures rs; work = work_after rs work; sheet = sheet_after rs sheet; tally = tallied (arrivals rs) tally }

-- "Fewer than 4,096 records get 15 before any job"; what is too long is looked for first
unfoldable pub report : (input work sheet : List ℕ) → List Tally → DayResult
report input work sheet tally =
    cond (too_long input) (unchanged TooLong work sheet tally)
    (cond (ltb (length tally) max_places) (unchanged ShortTally work sheet tally)
    (after_jobs (results (entries input) work sheet) work sheet tally))

-- The promise of the public call: the figures and all that was lent are those of the definition.
pub record Reports (input work₀ sheet₀ : List ℕ) (tally₀ : List Tally) (r : Day) (work sheet : List ℕ) (tally : List Tally) : Type 0 where
  pub result : ◌≡◌ {A = DayResult} (record { day = r; work = work; sheet = sheet; tally = tally }) (report input work₀ sheet₀ tally₀)
