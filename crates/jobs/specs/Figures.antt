-- Document 02, paper 6: the figures of a day, of what its jobs come to.
use Rattle.std.specs.Prelude.{Bool, ◌||◌, List, [], ◌∷◌, map, ℕ, ◌-◌, max, eqb, length, get_or}
use Rattle.model.specs.Answer.{Result, route, refused_with}
use Rattle.model.specs.Calls.{written}
use Rattle.model.specs.Lists.{filter}
use Rattle.model.specs.Sheets.{read_sheet}
use Rattle.model.specs.Sums.{sum_over}
use Rattle.jobs.specs.Entries.{Entry, alone, refused}

-- ---- What the jobs come to

unfoldable pub result_of : Entry → (work sheet : List ℕ) → Result
result_of (alone input) work sheet = route input work sheet
result_of (refused number) work sheet = refused_with number work sheet

-- "runs each as if it were alone with the map": one after another, each with the lent areas as the one before it left them
unfoldable pub results : List Entry → (work sheet : List ℕ) → List Result
results [] work sheet = []
results (e ∷ es) work sheet = let r = result_of e work sheet in r ∷ results es r.work r.sheet

-- the areas after the last of them
unfoldable pub work_after : List Result → List ℕ → List ℕ
work_after [] work = work
work_after (r ∷ rs) work = work_after rs r.work

unfoldable pub sheet_after : List Result → List ℕ → List ℕ
sheet_after [] sheet = sheet
sheet_after (r ∷ rs) sheet = sheet_after rs r.sheet

-- ---- Counts

unfoldable pub has_number : ℕ → Result → Bool
has_number n r = eqb r.answer.number n

-- how many came to this number
unfoldable pub count : ℕ → List Result → ℕ
count n rs = length (filter (has_number n) rs)

-- ---- Costs

-- A route: the goal at its end, and its cost.
pub record Arrival : Type 0 where
  pub goal : ℕ
  pub cost : ℕ

-- the last place on the sheet
unfoldable pub goal_of : Result → ℕ
goal_of r = let s = read_sheet (written r) in get_or s.places (s.count - 1) 0

unfoldable pub arrival_of : Result → Arrival
arrival_of r = record { goal = goal_of r; cost = r.answer.cost }

-- "A job that is turned down, by 16 too, adds to its number's count and to nothing else": only a route is an arrival
unfoldable pub arrivals : List Result → List Arrival
arrivals rs = map arrival_of (filter (has_number 0) rs)

unfoldable pub total_cost : List Arrival → ℕ
total_cost xs = sum_over (λ (x : Arrival). x.cost) xs

-- 0 where there is none
unfoldable pub largest_cost : List Arrival → ℕ
largest_cost [] = 0
largest_cost (x ∷ xs) = max x.cost (largest_cost xs)

-- those that end at the goal g
unfoldable pub ending_at : ℕ → List Arrival → List Arrival
ending_at g xs = filter (λ (x : Arrival). eqb x.goal g) xs

-- ---- Expansions

-- "one without a route adds its expansions too"
unfoldable pub total_expansions : List Result → ℕ
total_expansions rs = sum_over (λ (r : Result). r.answer.expansions) (filter (λ (r : Result). has_number 0 r || has_number 17 r) rs)
