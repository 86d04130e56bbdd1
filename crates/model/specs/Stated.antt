-- What the records of an input state, as one thing, and the search problem that is made of it. Of kinds that the papers allow once, the
-- first record is read.
use Rattle.std.specs.Prelude.{◌≡◌, cond, ℕ, suc, ◌+◌, ◌*◌, ◌≤◌, ◌<◌, eqb, length, get_or}
use mathlib.Core.List.{List, [], ◌∷◌, map, head_d}
use Rattle.model.specs.Lists.{filter_map, member}
use Rattle.model.specs.Framing.{Record, frame}
use Rattle.model.specs.Limits.{max_class, max_factor}
use Rattle.model.specs.Problem.{Problem, Arc}
use Rattle.model.specs.Items.{Size, Charge, flat, measured, Lane, PlaceValue, Job, Item, items}
use Rattle.model.specs.Items.{size_in, lane_in, estimate_in, job_in, wait_in, factors_in, default_in}

pub record Stated : Type 0 where
  pub size : Size
  pub lanes : List Lane
  -- estimates of places, and for places that have none; of these an accepted input has one at most
  pub estimates : List PlaceValue
  pub defaults : List ℕ
  pub waits : List PlaceValue
  -- the table of factors, one for each class of lane
  pub factors : List ℕ
  -- what b is multiplied by when a round closes
  pub growth : ℕ
  pub job : Job

-- where no record states it
abbrev pub no_size : Size
no_size = record { places = 0; arcs = 0 }

abbrev pub no_job : Job
no_job = record { start = 0; allowance = 0; goals = [] }

-- Document 02, paper 1: "The fixed factors for classes 0 to 7 are 1, 2, 3, 4, 6, 8, 12, 16."
abbrev pub fixed_factors : List ℕ
fixed_factors = 1 ∷ 2 ∷ 3 ∷ 4 ∷ 6 ∷ 8 ∷ 12 ∷ 16 ∷ []

-- Document 02, paper 7, a table that passes: "Each must be 1 to 16, and none smaller than the one before."
pub record IsTable (factors : List ℕ) : Type 0 where
  pub eight : length factors ≡ 8
  pub above : (class : ℕ) → class ≤ max_class → 1 ≤ get_or factors class 0
  pub below : (class : ℕ) → class ≤ max_class → get_or factors class 0 ≤ max_factor
  pub rising : (class : ℕ) → class < max_class → get_or factors class 0 ≤ get_or factors (suc class) 0

-- Document 02, paper 7: factors of a record "replace the fixed ones for that map", wherever it stands. No record states another growth: "b doubles".
unfoldable pub stated_by : List Item → Stated
stated_by is =
    record {
      size = head_d (filter_map size_in is) no_size;
      lanes = filter_map lane_in is;
      estimates = filter_map estimate_in is;
      defaults = filter_map default_in is;
      waits = filter_map wait_in is;
      factors = head_d (filter_map factors_in is) fixed_factors;
      growth = 2;
      job = head_d (filter_map job_in is) no_job;
    }

unfoldable pub stated : List Record → Stated
stated rs = stated_by (items rs)

-- what an input states
abbrev pub stated_in : List ℕ → Stated
stated_in input = stated (frame input).records

-- the value that is given for v, or d where none is
unfoldable pub lookup : ℕ → List PlaceValue → ℕ → ℕ
lookup d [] v = d
lookup d (e ∷ es) v = cond (eqb e.place v) e.value (lookup d es v)

-- "one 4-byte estimate for all places that have none of their own"; without a record for it, 0
unfoldable pub default : Stated → ℕ
default s = head_d s.defaults 0

-- "A place without an estimate has 0." Document 02, paper 8: "The lookup of an estimate now answers with this default", "goals excepted, which
-- keep 0".
unfoldable pub estimate_at : Stated → ℕ → ℕ
estimate_at s v = cond (member v s.job.goals) 0 (lookup (default s) s.estimates v)

-- What a lane costs under a table of factors: "length times the factor of the class".
unfoldable pub cost_under : List ℕ → Charge → ℕ
cost_under factors (flat cost) = cost
cost_under factors (measured length class) = length * get_or factors class 0

-- what a lane costs by itself
unfoldable pub lane_cost : Stated → Lane → ℕ
lane_cost s l = cost_under s.factors l.charge

-- Document 02, paper 5: "A place without one waits 0."
unfoldable pub wait_at : Stated → ℕ → ℕ
wait_at s v = lookup 0 s.waits v

-- The arc that a lane becomes. A wait is "charged each time a cart leaves" its place "by any arc", so that an arc has the wait of the place
-- that it leaves in its cost.
unfoldable pub arc_of : Stated → Lane → Arc
arc_of s l = record { from = l.from; to = l.to; cost = lane_cost s l + wait_at s l.from }

unfoldable pub problem_of : Stated → Problem
problem_of s =
    record {
      places = s.size.places;
      arcs = map (arc_of s) s.lanes;
      estimate = estimate_at s;
      start = s.job.start;
      goals = s.job.goals;
      growth = s.growth;
    }
