-- Days, computed from the definitions: jobs of every kind, maps that are refused, broken tails, days without a job, and what is too long or too short by
-- one.
use mathlib.Core.Path.{◌≡◌, refl}
use mathlib.Core.Bool.{cond}
use mathlib.Core.List.{List, [], ◌∷◌, ◌++◌, map, flat_map}
use Prim.Native.Nat.{ℕ, zero, suc}
use lib.Dec.{eqb}
use lib.ListN.{replicate}
use Rattle.model.specs.Lists.{below}
use Rattle.model.specs.Sums.{sum_over}
use Rattle.model.specs.Jobs.{put_head, put_arc, put_estimate, put_wait, put_job}
use Rattle.model.specs.Framing.{put_record}
use Rattle.model.proofs.Compute.{compute}
use Rattle.tally.specs.declared.Tally.{Tally}
use Rattle.tally.specs.Tallied.{tally_with}
use Rattle.jobs.specs.Entries.{is_job, before_job, from_job, bytes_of, map_in, entry_of, entries_of, tail_of, entries}
use Rattle.jobs.specs.Figures.{result_of, results, work_after, sheet_after, has_number, count, goal_of, arrival_of, arrivals, total_cost, largest_cost}
use Rattle.jobs.specs.Figures.{ending_at, total_expansions}
use Rattle.jobs.specs.Report.{too_long, figures, without, tally_of, tallied, unchanged, after_jobs, report}
use Rattle.day.specs.Host.{status_number}

-- opens all that `report` rests on
unfoldable opened : Unit {0}
unfolding compute below sum_over is_job before_job from_job bytes_of map_in entry_of entries_of tail_of entries result_of results work_after sheet_after has_number
    count goal_of arrival_of arrivals total_cost largest_cost ending_at total_expansions too_long figures without tally_of tallied unchanged after_jobs report
opened = tt

-- a map of 6 places, which asks for 104 words and 22 bytes
abbrev lanes : List ℕ
lanes = put_head 6 4 ++ put_arc 0 1 4 ++ put_arc 1 2 3 ++ put_arc 0 3 2 ++ put_arc 4 0 1 ++ put_estimate 1 3

-- routes to two goals, of which one is reached at cost 0 and twice though it is not named first; no route; the allowance spent; refused by 13, 12, 11 and 3;
-- records that are no jobs, a second head among them; and a broken tail
abbrev mixed : List ℕ
mixed =
    lanes
    ++ put_job 0 1416 (2 ∷ []) ++ put_job 4 1416 (2 ∷ 3 ∷ []) ++ put_job 3 1416 (3 ∷ []) ++ put_job 2 1416 (5 ∷ []) ++ put_job 4 2 (2 ∷ [])
    ++ put_job 0 1416 (1 ∷ []) ++ put_job 0 1416 (3 ∷ 2 ∷ []) ++ put_job 6 1416 (2 ∷ []) ++ put_record 4 (0 ∷ 0 ∷ [])
    ++ put_wait 1 5 ++ put_record 99 (1 ∷ []) ++ put_head 6 4 ++ put_job 0 1416 (2 ∷ 3 ∷ 5 ∷ []) ++ (8 ∷ 0 ∷ 4 ∷ [])

-- one lane, and a job along it
abbrev lane : List ℕ
lane = put_head 2 1 ++ put_arc 0 1 3

abbrev along : List ℕ
along = put_job 0 472 (1 ∷ [])

-- so many records that are no jobs
abbrev others : ℕ → List ℕ
others n = flat_map (λ k. put_record 9 []) (below n)

record Run : Type 0 where
  input : List ℕ
  -- how much is lent
  words : ℕ
  bytes : ℕ
  records : ℕ
  -- how it ends; each number that occurred and its count; total cost, largest cost, total expansions; each goal reached, its routes and their cost
  ended : ℕ
  counts : List ℕ
  totals : List ℕ
  goals : List ℕ

run : (input : List ℕ) (words bytes records ended : ℕ) (counts totals goals : List ℕ) → Run
run i w b r e c t g = record { input = i; words = w; bytes = b; records = r; ended = e; counts = c; totals = t; goals = g }

none : List ℕ
none = 0 ∷ 0 ∷ 0 ∷ []

runs : List Run
runs =
    run mixed 104 22 4096 0
    (0 ∷ 4 ∷ 1 ∷ 1 ∷ 3 ∷ 1 ∷ 10 ∷ 3 ∷ 11 ∷ 1 ∷ 12 ∷ 1 ∷ 13 ∷ 1 ∷ 16 ∷ 1 ∷ 17 ∷ 1 ∷ []) (12 ∷ 7 ∷ 27 ∷ []) (2 ∷ 1 ∷ 7 ∷ 3 ∷ 3 ∷ 5 ∷ [])
    -- with less lent, only what the map and the jobs are refused for comes before
    ∷ run mixed 103 22 4096 0 (1 ∷ 1 ∷ 3 ∷ 1 ∷ 10 ∷ 3 ∷ 11 ∷ 1 ∷ 12 ∷ 1 ∷ 13 ∷ 1 ∷ 14 ∷ 6 ∷ []) none []
    ∷ run mixed 104 21 4096 0 (1 ∷ 1 ∷ 3 ∷ 1 ∷ 10 ∷ 3 ∷ 11 ∷ 1 ∷ 12 ∷ 1 ∷ 13 ∷ 1 ∷ 15 ∷ 6 ∷ []) none []
    -- a short tally: no job is run
    ∷ run mixed 104 22 4095 15 [] none []
    -- no job; a broken tail and no job; no map; a map that comes too late; a map that is refused
    ∷ run [] 0 0 4096 0 [] none []
    ∷ run lane 34 14 4096 0 [] none []
    ∷ run (lane ++ (1 ∷ [])) 34 14 4096 0 (1 ∷ 1 ∷ []) none []
    ∷ run along 34 14 4096 0 (4 ∷ 1 ∷ []) none []
    ∷ run (along ++ lane) 34 14 4096 0 (4 ∷ 1 ∷ 10 ∷ 2 ∷ []) none []
    ∷ run (lane ++ put_arc 0 1 0 ++ along ++ along) 34 14 4096 0 (5 ∷ 2 ∷ []) none []
    -- 1,000 records behind the map, a broken tail being one, and one more
    ∷ run (lane ++ along ++ others 999) 34 14 4096 0 (0 ∷ 1 ∷ 10 ∷ 999 ∷ []) (3 ∷ 3 ∷ 2 ∷ []) (1 ∷ 1 ∷ 3 ∷ [])
    ∷ run (lane ++ along ++ others 998 ++ (1 ∷ [])) 34 14 4096 0 (0 ∷ 1 ∷ 1 ∷ 1 ∷ 10 ∷ 998 ∷ []) (3 ∷ 3 ∷ 2 ∷ []) (1 ∷ 1 ∷ 3 ∷ [])
    ∷ run (lane ++ along ++ others 1000) 34 14 4096 255 [] none []
    ∷ run (lane ++ along ++ others 999 ++ (1 ∷ [])) 34 14 4096 255 [] none []
    -- what is too long is looked for first
    ∷ run (lane ++ along ++ others 1000) 34 14 0 255 [] none []
    ∷ []

-- the counts other than 0, each behind its number
occurred : ℕ → List ℕ → List ℕ
occurred n [] = []
occurred n (zero ∷ cs) = occurred (suc n) cs
occurred n (suc c ∷ cs) = n ∷ suc c ∷ occurred (suc n) cs

reached : Tally → List ℕ
reached t = cond (eqb t.routes 0) [] (t.goal ∷ t.routes ∷ t.cost ∷ [])

-- How a run ends, and the lists that it has. What is lent holds sevens before the call; of the tally the first six records are looked at.
shown : Run → List (List ℕ)
shown r =
    let work : List ℕ = replicate r.words 7 in
    let sheet : List ℕ = replicate r.bytes 7 in
    let d = (report r.input work sheet (replicate r.records (tally_with 7 7 7))).day in
    let xs = cond (eqb r.ended 0) (arrivals (results (entries r.input) work sheet)) [] in
    (status_number d.status ∷ [])
    ∷ occurred 0 d.counts
    ∷ (d.cost ∷ d.largest ∷ d.expansions ∷ [])
    ∷ flat_map (λ g. reached (tally_of xs g)) (below 6)
    ∷ []

wanted : Run → List (List ℕ)
wanted r = (r.ended ∷ []) ∷ r.counts ∷ r.totals ∷ r.goals ∷ []

runs_agree : map shown runs ≡ map wanted runs
unfolding opened flat_map status_number run none runs occurred reached shown wanted
runs_agree = refl
