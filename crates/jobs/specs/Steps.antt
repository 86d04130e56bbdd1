-- What the steps of a report leave: figures and tallies as plain numbers, after one answer more.
use Rattle.std.specs.Prelude.{◌≡◌, cond, List, ◌++◌, map, ◌⊎◌, ℕ, ◌+◌, ◌-◌, ◌^◌, ◌≤◌, ◌<◌, max, eqb, length, take, drop, get_or, set, replicate}
use Rattle.model.specs.Answer.{Answer, Result}
use Rattle.model.specs.Bytes.{u16}
use Rattle.model.specs.Framing.{frame}
use Rattle.model.specs.Limits.{max_places}
use Rattle.model.specs.Lists.{below}
use Rattle.area.specs.Part.{part}
use Rattle.tally.specs.declared.Tally.{Tally}
use Rattle.tally.specs.Tallied.{Puttable, put_to}
use Rattle.answer.specs.Numbers.{answer_of}
use Rattle.answer.specs.declared.Answer as code
use Rattle.map.specs.declared.record.Record.{Record}
use Rattle.map.specs.Items.{LiesIn}
use Rattle.map.specs.Records.{record_in}
use Rattle.jobs.specs.declared.Day.{Day}
use Rattle.jobs.specs.declared.Reckoning.{Reckoning}
use Rattle.jobs.specs.Entries.{Entry, map_in, entry_of, entries_of, tail_of, entries}
use Rattle.jobs.specs.Figures.{result_of, results, work_after, sheet_after, Arrival, arrivals, ending_at, total_cost}
use Rattle.jobs.specs.Report.{numbers, max_input, max_entries, figures, Reports}

-- ---- Figures

abbrev pub counted : Day → ℕ → Day
counted d n =
    record {
      status = d.status;
      counts = set d.counts n (get_or d.counts n 0 + 1);
      cost = d.cost;
      largest = d.largest;
      expansions = d.expansions;
    }

abbrev pub with_expansions : Day → ℕ → Day
with_expansions d x =
    record { status = d.status; counts = d.counts; cost = d.cost; largest = d.largest; expansions = d.expansions + x }

abbrev pub with_cost : Day → ℕ → Day
with_cost d c =
    record { status = d.status; counts = d.counts; cost = d.cost + c; largest = max d.largest c; expansions = d.expansions }

-- one answer more
unfoldable pub noted : Day → Answer → Day
noted d a =
    let e = counted d a.number in
    cond (eqb a.number 0) (with_cost (with_expansions e a.expansions) a.cost)
    (cond (eqb a.number 17) (with_expansions e a.expansions) e)

-- its numbers fit
pub record Notable (d : Day) (a : Answer) : Type 0 where
  pub number : a.number < numbers
  pub count : get_or d.counts a.number 0 + 1 < 2 ^ 32
  pub cost : d.cost + a.cost < 2 ^ 64
  pub expansions : (a.number ≡ 0) ⊎ (a.number ≡ 17) → d.expansions + a.expansions < 2 ^ 32

-- ---- Tallies

-- how many routes end at each place, and what they cost
unfoldable pub routes_by : List Arrival → List ℕ
routes_by xs = map (λ g. length (ending_at g xs)) (below max_places)

unfoldable pub costs_by : List Arrival → List ℕ
costs_by xs = map (λ g. total_cost (ending_at g xs)) (below max_places)

-- x more at i
unfoldable pub raised : List ℕ → ℕ → ℕ → List ℕ
raised xs i x = set xs i (get_or xs i 0 + x)

-- a route that ends at the goal can be added
pub record Addable (routes costs : List ℕ) (goal cost : ℕ) : Type 0 where
  pub routes_there : goal < length routes
  pub costs_there : goal < length costs
  pub routes_fit : get_or routes goal 0 + 1 < 2 ^ 32
  pub costs_fit : get_or costs goal 0 + cost < 2 ^ 64

pub record Added (routes₀ costs₀ : List ℕ) (goal cost : ℕ) (routes costs : List ℕ) : Type 0 where
  pub routes_are : routes ≡ raised routes₀ goal 1
  pub costs_are : costs ≡ raised costs₀ goal cost

-- the last place on a sheet of so many bytes
unfoldable pub last_on : (sheet : List ℕ) → (bytes : ℕ) → ℕ
last_on sheet bytes = u16 sheet (bytes - 2)

unfoldable pub routes_with : Answer → (sheet routes : List ℕ) → List ℕ
routes_with a sheet routes = cond (eqb a.number 0) (raised routes (last_on sheet a.sheet_bytes) 1) routes

unfoldable pub costs_with : Answer → (sheet costs : List ℕ) → List ℕ
costs_with a sheet costs = cond (eqb a.number 0) (raised costs (last_on sheet a.sheet_bytes) a.cost) costs

-- a route's sheet is there, and it can be added
pub record Talliable (a : Answer) (sheet routes costs : List ℕ) : Type 0 where
  pub some_place : a.number ≡ 0 → 2 ≤ a.sheet_bytes
  pub sheet_there : a.number ≡ 0 → a.sheet_bytes ≤ length sheet
  pub addable : a.number ≡ 0 → Addable routes costs (last_on sheet a.sheet_bytes) a.cost

pub record Tallies (a : Answer) (sheet routes₀ costs₀ routes costs : List ℕ) : Type 0 where
  pub routes_are : routes ≡ routes_with a sheet routes₀
  pub costs_are : costs ≡ costs_with a sheet costs₀

-- ---- One record behind the map

-- a record behind a map of so many bytes, and a buffer as long as an input may be, whose first bytes hold the map
pub record Runnable (input : List ℕ) (map : ℕ) (r : Record) (buffer : List ℕ) : Type 0 where
  pub lies : LiesIn input r
  pub behind : map + 4 ≤ r.start
  pub short : length input ≤ max_input
  pub room : length buffer ≡ max_input

-- the bytes of a record
abbrev pub bytes_in : List ℕ → Record → List ℕ
bytes_in input r = part (r.start - 4) r.end input

-- it comes to what its entry does, and the map stays in the buffer
pub record RecordRun (input : List ℕ) (map : ℕ) (r : Record) (buffer₀ work₀ sheet₀ : List ℕ) (a : code.Answer) (buffer work sheet : List ℕ) : Type 0 where
  pub result : ◌≡◌ {A = Result} (record { answer = answer_of a; work = work; sheet = sheet })
      (result_of (entry_of (take map buffer₀) (record_in input r) (bytes_in input r)) work₀ sheet₀)
  pub map_stays : take map buffer ≡ take map buffer₀
  pub room : length buffer ≡ max_input

-- ---- All of them

-- the entries from byte `at` on
unfoldable pub left_at : List ℕ → ℕ → List Entry
left_at input at = let f = frame (drop at input) in entries_of (map_in input) f.records (drop at input) ++ tail_of f.broken

-- what the entries of an input come to
abbrev pub results_in : (input work sheet : List ℕ) → List Result
results_in input work sheet = results (entries input) work sheet

-- no route ends anywhere
pub record Blank (routes costs : List ℕ) : Type 0 where
  pub no_routes : routes ≡ replicate max_places 0
  pub no_costs : costs ≡ replicate max_places 0

-- the map is in the buffer, and nothing has been run
pub record Startable (input : List ℕ) (map : ℕ) (buffer routes costs : List ℕ) : Type 0 where
  pub map_bytes : map ≡ length (map_in input)
  pub short : length input ≤ max_input
  pub few : length (entries input) ≤ max_entries
  pub map_there : take map buffer ≡ map_in input
  pub room : length buffer ≡ max_input
  pub blank : Blank routes costs

-- where the entries before byte `at` have been run
pub record Underway (input work₀ sheet₀ : List ℕ) (at : ℕ) (d : Day) (buffer work sheet routes costs : List ℕ) : Type 0 where
  pub inside : at ≤ length input
  pub behind : length (map_in input) ≤ at
  pub done : List Result
  pub split : results_in input work₀ sheet₀ ≡ done ++ results (left_at input at) work sheet
  pub work_is : work ≡ work_after done work₀
  pub sheet_is : sheet ≡ sheet_after done sheet₀
  pub day_is : d ≡ figures done
  pub routes_are : routes ≡ routes_by (arrivals done)
  pub costs_are : costs ≡ costs_by (arrivals done)
  pub map_there : take (length (map_in input)) buffer ≡ map_in input
  pub room : length buffer ≡ max_input

pub record AllRun (input work₀ sheet₀ : List ℕ) (d : Day) (work sheet routes costs : List ℕ) : Type 0 where
  pub day_is : d ≡ figures (results_in input work₀ sheet₀)
  pub work_is : work ≡ work_after (results_in input work₀ sheet₀) work₀
  pub sheet_is : sheet ≡ sheet_after (results_in input work₀ sheet₀) sheet₀
  pub routes_are : routes ≡ routes_by (arrivals (results_in input work₀ sheet₀))
  pub costs_are : costs ≡ costs_by (arrivals (results_in input work₀ sheet₀))

-- ---- The report as plain numbers

-- With these numbers put into it, any tally of as many records makes the report whole.
pub record Reckoned (input work₀ sheet₀ : List ℕ) (records : ℕ) (r : Reckoning) (work sheet routes costs : List ℕ) : Type 0 where
  pub puttable : (tally : List Tally) → length tally ≡ records → Puttable r.records tally routes costs
  pub reports : (tally : List Tally) → length tally ≡ records
      → Reports input work₀ sheet₀ tally r.day work sheet (put_to r.records routes costs tally)
