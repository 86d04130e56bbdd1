-- What program `report` prints. Document 02, paper 6: "Lines printed, numbers parted by one blank: each answer number that occurred and its count, rising,
-- a line each; then one line of total cost, largest cost, total expansions, 0 where there is none; then a line of goal, routes, cost for each goal
-- reached, rising. More than 1,000 records after the map …, or more than 65,536 bytes, prints `too long`."
use Rattle.std.specs.Prelude.{◌≡◌, cond, List, [], ◌∷◌, ◌++◌, ℕ, suc, ◌+◌, ◌*◌, ◌≤◌, eqb, length, replicate}
use Rattle.model.specs.Limits.{max_places}
use Rattle.text.specs.Text.{line, too_long}
use Rattle.tally.specs.declared.Tally.{Tally}
use Rattle.tally.specs.Tallied.{tally_with}
use Rattle.jobs.specs.declared.Day.{Day}
use Rattle.jobs.specs.declared.Status.{Status}
use Rattle.jobs.specs.declared.Status.TheVariants.{TooLong, ShortTally, Reported}
use Rattle.jobs.specs.Report.{numbers, DayResult, report}

-- a number that occurred, and its count
unfoldable pub count_line : (number count : ℕ) → List ℕ
count_line number count = cond (eqb count 0) [] (line (number ∷ count ∷ []))

-- counts by number, the first of them of this number
unfoldable pub count_lines : ℕ → List ℕ → List ℕ
count_lines number [] = []
count_lines number (c ∷ cs) = count_line number c ++ count_lines (suc number) cs

unfoldable pub figures_line : Day → List ℕ
figures_line d = line (d.cost ∷ d.largest ∷ d.expansions ∷ [])

-- a goal that was reached
unfoldable pub goal_line : Tally → List ℕ
goal_line t = cond (eqb t.routes 0) [] (line (t.goal ∷ t.routes ∷ t.cost ∷ []))

unfoldable pub goal_lines : List Tally → List ℕ
goal_lines [] = []
goal_lines (t ∷ ts) = goal_line t ++ goal_lines ts

-- what stands before the goals
unfoldable pub day_text : Status → Day → List ℕ
day_text TooLong d = too_long
day_text ShortTally d = line (15 ∷ [])
day_text Reported d = count_lines 0 d.counts ++ figures_line d

unfoldable pub goals_text : Status → List Tally → List ℕ
goals_text TooLong ts = []
goals_text ShortTally ts = []
goals_text Reported ts = goal_lines ts

unfoldable pub text_of : DayResult → List ℕ
text_of r = day_text r.day.status r.day ++ goals_text r.day.status r.tally

abbrev pub no_tally : Tally
no_tally = tally_with 0 0 0

-- "in memory as for `route`": 16,384 words and 8,202 bytes; and as many records as the tally needs, so that 15 never comes
unfoldable pub reported : List ℕ → DayResult
reported input = report input (replicate 16384 0) (replicate 8202 0) (replicate 4096 no_tally)

unfoldable pub printed : List ℕ → List ℕ
printed input = text_of (reported input)

-- The text is what is printed of the input.
abbrev pub Prints : (input text : List ℕ) → Type 0
Prints input text = text ≡ printed input

-- Bytes are put after a text, and are no more than this many.
pub record PutWithin (room : ℕ) (new old text : List ℕ) : Type 0 where
  pub put : text ≡ old ++ new
  pub short : length text ≤ length old + room

-- how many bytes a line may take that has a number and its count, and one that has three numbers of 64 bits: 11 and 21 a number, and 1 more
abbrev pub count_room : ℕ
count_room = 11 * 2 + 1

abbrev pub wide_room : ℕ
wide_room = 21 * 3 + 1

-- all that stands before the goals, and all that is printed
abbrev pub day_room : ℕ
day_room = count_room * numbers + wide_room

abbrev pub text_room : ℕ
text_room = day_room + wide_room * max_places
