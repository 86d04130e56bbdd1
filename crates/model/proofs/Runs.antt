-- Document 01, "Runs by hand": P1 to P10 as rows of one table, and the table as one theorem, computed from the definitions; then runs with
-- several goals, one over lanes of all classes, some where the fewest places decide, some with waits, some with factors of their own, and some with a
-- default estimate.
use mathlib.Core.Path.{◌≡◌, refl}
use mathlib.Core.Bool.{Bool, true, ◌&&◌}
use mathlib.Core.List.{List, [], ◌∷◌, ◌++◌}
use mathlib.Core.Option.{none}
use Prim.Native.Nat.{ℕ, ◌-◌}
use lib.ListN.{length, replicate}
use Rattle.model.specs.Lists.{same_numbers}
use Rattle.model.specs.Bytes.{put16, put32, put16s}
use Rattle.model.specs.Framing.{put_record}
use Rattle.model.specs.Jobs.{put_head, put_arc, put_measured, put_estimate, put_wait, put_factors, put_default, put_job}
use Rattle.model.specs.Problem.{Problem}
use Rattle.model.specs.Costs.{table}
use Rattle.model.specs.Query.{next_limit}
use Rattle.model.specs.Answer.{Answer, route}
use Rattle.model.proofs.Compute.{compute}

-- One query by itself: with every place within, an arc back into a place within is no next limit.
cycle : Problem
cycle =
    record {
      places = 2;
      arcs = record { from = 0; to = 1; cost = 1 } ∷ record { from = 1; to = 0; cost = 1 } ∷ [];
      estimate = λ v. 0;
      start = 0;
      goals = [];
      growth = 2;
    }

no_arc_leaves : next_limit cycle (table cycle 2) ≡ none
unfolding compute cycle
no_arc_leaves = refl

-- map A with the estimate h at place 1
unfoldable pub map_a : ℕ → List ℕ
map_a h =
    put_head 4 4 ++ put_arc 0 1 1 ++ put_arc 0 2 3 ++ put_arc 1 2 1 ++ put_arc 2 3 3
    ++ put_estimate 0 0 ++ put_estimate 1 h ++ put_estimate 2 1 ++ put_estimate 3 0

-- P7 and P8
pair : List ℕ
pair = put_head 2 1 ++ put_arc 1 0 1

-- P9
square : List ℕ
square = put_head 4 4 ++ put_arc 0 1 1 ++ put_arc 0 2 1 ++ put_arc 1 3 1 ++ put_arc 2 3 1

-- P10
hexagon : List ℕ
hexagon = put_head 6 6 ++ put_arc 0 1 1 ++ put_arc 0 2 1 ++ put_arc 1 4 1 ++ put_arc 2 3 1 ++ put_arc 4 5 1 ++ put_arc 3 5 1

-- three places at one cost from place 0
star : List ℕ
star = put_head 4 3 ++ put_arc 0 3 2 ++ put_arc 0 2 2 ++ put_arc 0 1 2

-- place 1 is reached by the first arc, places 2 and 3 at less
detour : List ℕ
detour = put_head 4 3 ++ put_arc 0 1 5 ++ put_arc 0 2 1 ++ put_arc 2 3 1

-- One run: the input, the lengths of the lent areas, and what the call comes to: the seven numbers, how many words are 0, the sheet's bytes.
pub record Case : Type 0 where
  pub input : List ℕ
  pub words : ℕ
  pub bytes : ℕ
  pub numbers : List ℕ
  pub zeros : ℕ
  pub sheet : List ℕ

unfoldable pub seven : Answer → List ℕ
seven a = a.number ∷ a.cost ∷ a.limit ∷ a.floor ∷ a.expansions ∷ a.queries ∷ a.sheet_bytes ∷ []

-- `new` at the front of an area of so many elements that held x throughout
unfoldable pub over : List ℕ → ℕ → ℕ → List ℕ
over new x size = new ++ replicate (size - length new) x

-- Both whole areas are compared. They are lent full of other numbers than any that the call writes.
unfoldable pub agrees : Case → Bool
agrees r =
    let w = route r.input (replicate r.words 7) (replicate r.bytes 9) in
    same_numbers (seven w.answer) r.numbers
    && same_numbers w.work (over (replicate r.zeros 0) 7 r.words)
    && same_numbers w.sheet (over r.sheet 9 r.bytes)

unfoldable pub agree : List Case → Bool
agree [] = true
agree (r ∷ rs) = agrees r && agree rs

-- on 200 words and 50 bytes
unfoldable pub case : (input numbers : List ℕ) (zeros : ℕ) (sheet : List ℕ) → Case
case input numbers zeros sheet = record { input = input; words = 200; bytes = 50; numbers = numbers; zeros = zeros; sheet = sheet }

numbers : (number cost limit floor expansions queries bytes : ℕ) → List ℕ
numbers n c l f e q b = n ∷ c ∷ l ∷ f ∷ e ∷ q ∷ b ∷ []

-- the sheets, byte for byte
sheet_a : List ℕ
sheet_a =
    0x0E ∷ 0x00 ∷ 0x11 ∷ 0x00 ∷ 0x05 ∷ 0x00 ∷ 0x00 ∷ 0x00 ∷ 0x04 ∷ 0x00 ∷ 0x00 ∷ 0x00 ∷ 0x01 ∷ 0x00 ∷ 0x02 ∷ 0x00 ∷ 0x03 ∷ 0x00 ∷ []

sheet5 : List ℕ
sheet5 = 0x0C ∷ 0x00 ∷ 0x11 ∷ 0x00 ∷ 0x06 ∷ 0x00 ∷ 0x00 ∷ 0x00 ∷ 0x03 ∷ 0x00 ∷ 0x00 ∷ 0x00 ∷ 0x02 ∷ 0x00 ∷ 0x03 ∷ 0x00 ∷ []

sheet6 : List ℕ
sheet6 = 0x08 ∷ 0x00 ∷ 0x11 ∷ 0x00 ∷ 0x00 ∷ 0x00 ∷ 0x00 ∷ 0x00 ∷ 0x01 ∷ 0x00 ∷ 0x03 ∷ 0x00 ∷ []

no_route_from0 : List ℕ
no_route_from0 = 0x02 ∷ 0x00 ∷ 0x12 ∷ 0x00 ∷ 0x00 ∷ 0x00 ∷ []

unfoldable pub sheet9 : List ℕ
sheet9 = 0x0C ∷ 0x00 ∷ 0x11 ∷ 0x00 ∷ 0x02 ∷ 0x00 ∷ 0x00 ∷ 0x00 ∷ 0x03 ∷ 0x00 ∷ 0x00 ∷ 0x00 ∷ 0x01 ∷ 0x00 ∷ 0x03 ∷ 0x00 ∷ []

sheet10 : List ℕ
sheet10 =
    0x0E ∷ 0x00 ∷ 0x11 ∷ 0x00 ∷ 0x03 ∷ 0x00 ∷ 0x00 ∷ 0x00 ∷ 0x04 ∷ 0x00 ∷ 0x00 ∷ 0x00 ∷ 0x02 ∷ 0x00 ∷ 0x03 ∷ 0x00 ∷ 0x05 ∷ 0x00 ∷ []

-- Document 01 states the first six numbers of P1 to P9, the places, and the sheets of P7 to P9. Bytes is the sheet's length; the other numbers
-- of P10, and those of the runs with several goals below, are those of tests/reference.py.
runs : List Case
runs =
    -- P1 to P4: map A under four allowances
    case (map_a 4 ++ put_job 0 944 (3 ∷ [])) (numbers 0 5 10 0 16 10 18) 72 sheet_a
    ∷ case (map_a 4 ++ put_job 0 16 (3 ∷ [])) (numbers 0 5 10 0 16 10 18) 72 sheet_a
    ∷ case (map_a 4 ++ put_job 0 15 (3 ∷ [])) (numbers 16 0 0 5 15 10 0) 72 []
    ∷ case (map_a 4 ++ put_job 0 0 (3 ∷ [])) (numbers 16 0 0 0 0 1 0) 72 []
    -- P5: an estimate that overstates
    ∷ case (map_a 9 ++ put_job 0 944 (3 ∷ [])) (numbers 0 6 8 0 7 6 16) 72 sheet5
    -- P6: the start is the goal
    ∷ case (map_a 4 ++ put_job 3 944 (3 ∷ [])) (numbers 0 0 0 0 0 1 12) 72 sheet6
    -- P7 and P8: no route
    ∷ case (pair ++ put_job 0 1 (1 ∷ [])) (numbers 17 0 0 0 1 1 6) 34 no_route_from0
    ∷ case (pair ++ put_estimate 0 7 ++ put_job 0 1 (1 ∷ [])) (numbers 17 0 14 0 1 1 6) 34 no_route_from0
    -- P9: two equal ways
    ∷ case (square ++ put_job 0 944 (3 ∷ [])) (numbers 0 2 2 0 10 6 16) 72 sheet9
    -- P10: the comparison goes from the goal back
    ∷ case (hexagon ++ put_job 0 1416 (5 ∷ [])) (numbers 0 3 4 0 19 8 18) 108 sheet10
    ∷ []

runs_agree : agree runs ≡ true
unfolding
    compute
    map_a pair square hexagon
    seven over agrees agree case numbers
    sheet_a sheet5 sheet6 no_route_from0 sheet9 sheet10 runs
runs_agree = refl

to_place2 : List ℕ
to_place2 = 0x0A ∷ 0x00 ∷ 0x11 ∷ 0x00 ∷ 0x02 ∷ 0x00 ∷ 0x00 ∷ 0x00 ∷ 0x02 ∷ 0x00 ∷ 0x00 ∷ 0x00 ∷ 0x02 ∷ 0x00 ∷ []

-- by places 0, 2 and 3 at cost 2
to_place3 : List ℕ
to_place3 = 0x0C ∷ 0x00 ∷ 0x11 ∷ 0x00 ∷ 0x02 ∷ 0x00 ∷ 0x00 ∷ 0x00 ∷ 0x03 ∷ 0x00 ∷ 0x00 ∷ 0x00 ∷ 0x02 ∷ 0x00 ∷ 0x03 ∷ 0x00 ∷ []

-- several goals: of equal ones the lowest-numbered, and the first in order, which is not the first generated
goal_runs : List Case
goal_runs =
    case (star ++ put_job 0 944 (2 ∷ 3 ∷ [])) (numbers 0 2 4 0 6 5 14) 70 to_place2
    ∷ case (detour ++ put_job 0 944 (1 ∷ 3 ∷ [])) (numbers 0 2 2 0 5 4 16) 70 to_place3
    ∷ []

goal_runs_agree : agree goal_runs ≡ true
unfolding compute star detour seven over agrees agree case numbers to_place2 to_place3 goal_runs
goal_runs_agree = refl

-- Document 02, paper 1: a lane of each class, each at cost 48, beside ways that cost one more.
classes : List ℕ
classes =
    put_head 9 13
    ++ put_measured 0 1 48 0 ++ put_measured 1 2 24 1 ++ put_measured 2 3 16 2 ++ put_measured 3 4 12 3
    ++ put_measured 4 5 8 4 ++ put_measured 5 6 6 5 ++ put_measured 6 7 4 6 ++ put_measured 7 8 3 7
    ++ put_arc 0 2 97 ++ put_arc 2 4 97 ++ put_arc 4 6 97 ++ put_arc 6 8 97 ++ put_measured 0 8 385 0
    ++ put_estimate 4 190

-- by all nine places at cost 384
over_all : List ℕ
over_all = put_record 17 (put32 384 ++ put16 9 ++ put16s (0 ∷ 1 ∷ 2 ∷ 3 ∷ 4 ∷ 5 ∷ 6 ∷ 7 ∷ 8 ∷ []))

-- its numbers are those of tests/reference.py
class_run_agrees : agrees (case (classes ++ put_job 0 2124 (8 ∷ [])) (numbers 0 384 764 0 64 22 28) 170 over_all) ≡ true
unfolding compute classes seven over agrees case numbers over_all
class_run_agrees = refl

-- Document 02, paper 2: the sheet of a route of this cost along these places
route_sheet_of : ℕ → List ℕ → List ℕ
route_sheet_of cost places = put_record 17 (put32 cost ++ put16 (length places) ++ put16s places)

-- nine places at cost 8, and four; by document 01's rule the route goes along the nine, since 7 is below 9
nine_or_four : List ℕ
nine_or_four =
    put_head 11 11
    ++ put_arc 0 1 1 ++ put_arc 1 2 1 ++ put_arc 2 3 1 ++ put_arc 3 4 1 ++ put_arc 4 5 1 ++ put_arc 5 6 1 ++ put_arc 6 7 1 ++ put_arc 7 10 1
    ++ put_arc 0 8 2 ++ put_arc 8 9 3 ++ put_arc 9 10 3

-- goal 3 with four places and goal 5 with three, both at cost 3
nearer_goal : List ℕ
nearer_goal = put_head 6 5 ++ put_arc 0 1 1 ++ put_arc 1 2 1 ++ put_arc 2 3 1 ++ put_arc 0 4 1 ++ put_arc 4 5 2

-- at cost 3 by way of 1 and 2, of 3, or of 4; by way of 5 at cost 4
equal_counts : List ℕ
equal_counts =
    put_head 7 9
    ++ put_arc 0 1 1 ++ put_arc 1 2 1 ++ put_arc 2 6 1 ++ put_arc 0 4 1 ++ put_arc 4 6 2 ++ put_arc 0 3 2 ++ put_arc 3 6 1 ++ put_arc 0 5 1 ++ put_arc 5 6 3

-- at cost 4 by way of 5, which overstates and is not within the limit that finds the goal; of 4 and 3; or of 1, 7 and 2
hidden_way : List ℕ
hidden_way =
    put_head 8 9
    ++ put_arc 0 5 2 ++ put_arc 5 6 2 ++ put_arc 0 4 1 ++ put_arc 4 3 1 ++ put_arc 3 6 2 ++ put_arc 0 1 1 ++ put_arc 1 7 1 ++ put_arc 7 2 1 ++ put_arc 2 6 1
    ++ put_estimate 5 100

-- their numbers are those of tests/reference.py
fewest_runs : List Case
fewest_runs =
    case (nine_or_four ++ put_job 0 2596 (10 ∷ [])) (numbers 0 8 12 0 51 12 18) 198 (route_sheet_of 8 (0 ∷ 8 ∷ 9 ∷ 10 ∷ []))
    ∷ case (nearer_goal ++ put_job 0 1416 (3 ∷ 5 ∷ [])) (numbers 0 3 6 0 15 7 16) 106 (route_sheet_of 3 (0 ∷ 4 ∷ 5 ∷ []))
    ∷ case (equal_counts ++ put_job 0 1652 (6 ∷ [])) (numbers 0 3 4 0 21 8 16) 130 (route_sheet_of 3 (0 ∷ 3 ∷ 6 ∷ []))
    ∷ case (hidden_way ++ put_job 0 1888 (6 ∷ [])) (numbers 0 4 4 0 20 8 18) 146 (route_sheet_of 4 (0 ∷ 4 ∷ 3 ∷ 6 ∷ []))
    ∷ []

fewest_runs_agree : agree fewest_runs ≡ true
unfolding compute nine_or_four nearer_goal equal_counts hidden_way seven over agrees agree case numbers route_sheet_of fewest_runs
fewest_runs_agree = refl

-- Document 02, paper 5: by way of 1 at cost 4 + 2 + 5 + 2, of 2 at 4 + 3 + 3; without the waits at 4 and 6. The start waits, and so does the goal,
-- which nobody leaves.
doors : List ℕ
doors =
    put_head 4 4
    ++ put_arc 0 1 2 ++ put_arc 1 3 2 ++ put_arc 0 2 3 ++ put_arc 2 3 3
    ++ put_wait 1 5 ++ put_estimate 2 3 ++ put_wait 3 9 ++ put_wait 0 4

-- lanes of both kinds as dear as they may be with their waits
dear_lane : List ℕ
dear_lane = put_head 2 1 ++ put_arc 0 1 65530 ++ put_wait 0 5 ++ put_wait 1 65535

dear_measure : List ℕ
dear_measure = put_head 2 1 ++ put_wait 0 15 ++ put_measured 0 1 4095 7

-- their numbers are those of tests/reference.py
wait_runs : List Case
wait_runs =
    case (doors ++ put_job 0 944 (3 ∷ [])) (numbers 0 10 20 0 16 10 16) 72 (route_sheet_of 10 (0 ∷ 2 ∷ 3 ∷ []))
    ∷ case (doors ++ put_job 1 944 (3 ∷ [])) (numbers 0 7 14 0 2 2 14) 72 (route_sheet_of 7 (1 ∷ 3 ∷ []))
    ∷ case (doors ++ put_job 3 944 (3 ∷ [])) (numbers 0 0 0 0 0 1 12) 72 sheet6
    ∷ case (dear_lane ++ put_job 0 472 (1 ∷ [])) (numbers 0 65535 131070 0 2 2 14) 34 (route_sheet_of 65535 (0 ∷ 1 ∷ []))
    ∷ case (dear_measure ++ put_job 0 472 (1 ∷ [])) (numbers 0 65535 131070 0 2 2 14) 34 (route_sheet_of 65535 (0 ∷ 1 ∷ []))
    ∷ []

wait_runs_agree : agree wait_runs ≡ true
unfolding compute doors dear_lane dear_measure seven over agrees agree case numbers route_sheet_of sheet6 wait_runs
wait_runs_agree = refl

-- Document 02, paper 7: by way of 1 two lanes of 4 feet in class 0, by way of 2 one of 1 foot in class 3 and one of 2 in class 7. By the fixed factors
-- that is 8 and 36; the table stands before the lanes, between them or behind them.
two_floors : (before between behind : List ℕ) → List ℕ
two_floors before between behind =
    put_head 4 4 ++ before
    ++ put_measured 0 1 4 0 ++ put_measured 1 3 4 0 ++ between ++ put_measured 0 2 1 3 ++ put_measured 2 3 2 7
    ++ behind ++ put_job 0 944 (3 ∷ [])

-- all lanes cost their length, and all cost 16 times that
all_ones : List ℕ
all_ones = put_factors (1 ∷ 1 ∷ 1 ∷ 1 ∷ 1 ∷ 1 ∷ 1 ∷ 1 ∷ [])

all16 : List ℕ
all16 = put_factors (16 ∷ 16 ∷ 16 ∷ 16 ∷ 16 ∷ 16 ∷ 16 ∷ 16 ∷ [])

-- their numbers are those of tests/reference.py
factor_runs : List Case
factor_runs =
    case (two_floors [] [] []) (numbers 0 8 8 0 16 10 16) 72 (route_sheet_of 8 (0 ∷ 1 ∷ 3 ∷ []))
    ∷ case (two_floors all_ones [] []) (numbers 0 3 6 0 7 5 16) 72 (route_sheet_of 3 (0 ∷ 2 ∷ 3 ∷ []))
    ∷ case (two_floors [] all_ones []) (numbers 0 3 6 0 7 5 16) 72 (route_sheet_of 3 (0 ∷ 2 ∷ 3 ∷ []))
    ∷ case (two_floors [] [] all_ones) (numbers 0 3 6 0 7 5 16) 72 (route_sheet_of 3 (0 ∷ 2 ∷ 3 ∷ []))
    ∷ case (two_floors [] all16 []) (numbers 0 48 96 0 11 9 16) 72 (route_sheet_of 48 (0 ∷ 2 ∷ 3 ∷ []))
    ∷ []

factor_runs_agree : agree factor_runs ≡ true
unfolding compute two_floors all_ones all16 seven over agrees agree case numbers route_sheet_of factor_runs
factor_runs_agree = refl

-- Document 02, paper 8: map A without its estimates; records stand before the lanes, between them and behind them.
ringed : (before between behind : List ℕ) (start : ℕ) (goals : List ℕ) → List ℕ
ringed before between behind start goals =
    put_head 4 4 ++ before ++ put_arc 0 1 1 ++ put_arc 0 2 3 ++ between ++ put_arc 1 2 1 ++ put_arc 2 3 3 ++ behind ++ put_job start 944 goals

-- their numbers are those of tests/reference.py
default_runs : List Case
default_runs =
    case (ringed [] [] [] 0 (3 ∷ [])) (numbers 0 5 10 0 13 7 18) 72 sheet_a
    -- wherever it stands; the start's estimate is the first low
    ∷ case (ringed (put_default 3) [] [] 0 (3 ∷ [])) (numbers 0 5 10 0 14 8 18) 72 sheet_a
    ∷ case (ringed [] (put_default 3) [] 0 (3 ∷ [])) (numbers 0 5 10 0 14 8 18) 72 sheet_a
    ∷ case (ringed [] [] (put_default 3) 0 (3 ∷ [])) (numbers 0 5 10 0 14 8 18) 72 sheet_a
    -- an own estimate of 0 is one
    ∷ case (ringed (put_default 3) (put_estimate 0 0) [] 0 (3 ∷ [])) (numbers 0 5 10 0 16 10 18) 72 sheet_a
    -- where every place has its own, a default changes nothing
    ∷ case (ringed (put_default 9) (put_estimate 2 3 ++ put_estimate 0 5) (put_estimate 1 4) 0 (3 ∷ [])) (numbers 0 5 10 0 15 9 18) 72 sheet_a
    ∷ case (ringed [] (put_estimate 2 3 ++ put_estimate 0 5) (put_estimate 1 4) 0 (3 ∷ [])) (numbers 0 5 10 0 15 9 18) 72 sheet_a
    -- one that overstates hides the way by 1; the goals keep 0
    ∷ case (ringed (put_default 3) [] [] 0 (2 ∷ 3 ∷ [])) (numbers 0 3 3 0 3 3 14) 72 (route_sheet_of 3 (0 ∷ 2 ∷ []))
    ∷ case (ringed (put_default 9) [] [] 3 (3 ∷ [])) (numbers 0 0 0 0 0 1 12) 72 sheet6
    -- P8, whose start has the 7 by default
    ∷ case (pair ++ put_default 7 ++ put_job 0 1 (1 ∷ [])) (numbers 17 0 14 0 1 1 6) 34 no_route_from0
    ∷ []

default_runs_agree : agree default_runs ≡ true
unfolding compute ringed pair seven over agrees agree case numbers route_sheet_of sheet_a sheet6 no_route_from0 default_runs
default_runs_agree = refl
