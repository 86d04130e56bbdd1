-- Records put into the output area one after another, and the bytes of the map that the words hold.
use Rattle.std.specs.Prelude.{◌≡◌, cond, ℕ, ◌+◌, ◌*◌, ◌≤◌, eqb, length}
use mathlib.Core.List.{List, [], ◌∷◌, ◌++◌, map, flat_map}
use Rattle.std.proofs.lemmas.List.Edits.{sets}
use Rattle.model.specs.Bytes.{u16s}
use Rattle.model.specs.Limits.{max_places, max_arcs, max_goals}
use Rattle.model.specs.Items.{estimate_kind, wait_kind}
use Rattle.model.specs.Jobs.{put_head, put_estimate, put_wait, put_table, put_some_default, put_job, put_lane}
use Rattle.map.specs.declared.Job.{Job}
use Rattle.map.specs.Items.{table_at, TableLies}
use Rattle.area.specs.Part.{part}
use Rattle.layout.specs.Regions.{waits_at, ends_at, estimates_at, goals_at, arcs_at}
use Rattle.sort.specs.Keys.{keys_of}
use Rattle.lane_rows.specs.Keys.{lane_in}

-- the new bytes stand there, nothing else has changed, and the position after them comes back
pub record Put (new : List ℕ) (at : ℕ) (old out : List ℕ) (r : ℕ) : Type 0 where
  pub bytes : out ≡ sets old at new
  pub end : r ≡ at + length new

-- the area has room for the bytes
abbrev pub Fits : (new : List ℕ) (at : ℕ) → List ℕ → Type 0
Fits new at out = at + length new ≤ length out

-- the lanes of words that hold keys
unfoldable pub put_lanes : List ℕ → List ℕ
put_lanes words = flat_map put_lane (map lane_in (keys_of words))

-- a record of this kind that gives a place a number: a wait, or an estimate
unfoldable pub put_value : (kind v x : ℕ) → List ℕ
put_value kind v x = cond (eqb kind wait_kind) (put_wait v x) (put_estimate v x)

-- where the number is not d, which holds without a record
unfoldable pub put_unless : (kind d v x : ℕ) → List ℕ
put_unless kind d v x = cond (eqb x d) [] (put_value kind v x)

-- the numbers from place v on, one for each
unfoldable pub put_by_place : (kind d v : ℕ) → List ℕ → List ℕ
put_by_place kind d v [] = []
put_by_place kind d v (x ∷ xs) = put_unless kind d v x ++ put_by_place kind d (v + 1) xs

-- the job, whose goals are read from the input
unfoldable pub put_job_of : List ℕ → Job → List ℕ
put_job_of input j = put_job j.site.start j.allowance (u16s j.goals input j.goals_at)

-- the map that the words hold, and its job
unfoldable pub map_text : List ℕ → Job → List ℕ → List ℕ
map_text input j w =
    let n = j.site.places in
    let m = j.site.arcs in
    put_head n m
    ++ put_lanes (part (arcs_at n) (arcs_at n + 2 * m) w)
    ++ put_by_place estimate_kind j.default 0 (part (estimates_at n) (goals_at n) w)
    ++ put_by_place wait_kind 0 0 (part (waits_at n) (ends_at n) w)
    ++ put_table (table_at input j.factors_at)
    ++ put_some_default j.default
    ++ put_job_of input j

-- the job's goals are the rest of the input, and few
pub record GoalsLast (input : List ℕ) (j : Job) : Type 0 where
  pub ends : j.goals_at + 2 * j.goals ≡ length input
  pub few : j.goals ≤ max_goals

-- what writing the map asks
pub record Puttable (input : List ℕ) (j : Job) (w out : List ℕ) : Type 0 where
  pub few : j.site.places ≤ max_places
  pub few_lanes : j.site.arcs ≤ max_arcs
  pub words : arcs_at j.site.places + 2 * j.site.arcs ≤ length w
  pub factors : TableLies input j.factors_at
  pub goals : GoalsLast input j
  pub room : Fits (map_text input j w) 0 out
