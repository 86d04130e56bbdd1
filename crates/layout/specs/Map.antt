-- The map that the words of the work area hold, for a site: so many places and arcs, a start, and a growth.
use Rattle.std.specs.Prelude.{cond, not, List, [], ◌++◌, map, ℕ, zero, suc, ◌+◌, ◌-◌, ◌≤◌, ◌<◌, ltb, eqb, length, take, drop}
use Rattle.model.specs.Lists.{filter, below}
use Rattle.model.specs.Problem.{Problem, Arc, Valid}
use Rattle.map.specs.declared.Site.{Site}
use Rattle.layout.specs.Regions.{arcs_at, end_word, estimate_word, goal_word, arc_end, arc_cost}

-- the row of place v is the arcs from where the row before ends to where its own ends
unfoldable pub row_start : ℕ → List ℕ → ℕ → ℕ
row_start n w zero = 0
row_start n w (suc v) = end_word n w v

unfoldable pub row_end : ℕ → List ℕ → ℕ → ℕ
row_end n w v = end_word n w v

-- the arc from v with this word
unfoldable pub arc_in : ℕ → ℕ → Arc
arc_in v x = record { from = v; to = arc_end x; cost = arc_cost x }

unfoldable pub row : ℕ → List ℕ → ℕ → List Arc
row n w v = map (arc_in v) (take (row_end n w v - row_start n w v) (drop (arcs_at n + row_start n w v) w))

-- the rows of the places below k
unfoldable pub rows_below : ℕ → List ℕ → ℕ → List Arc
rows_below n w zero = []
rows_below n w (suc k) = rows_below n w k ++ row n w k

-- the problem that the words hold
unfoldable pub problem_at : Site → List ℕ → Problem
problem_at s w =
    let n = s.places in
    record {
      places = n;
      arcs = rows_below n w n;
      estimate = λ v. cond (ltb v n) (estimate_word n w v) 0;
      start = s.start;
      goals = filter (λ v. not (eqb (goal_word n w v) 0)) (below n);
      growth = s.growth;
    }

-- the words hold a valid problem, whose rows lie in order; the growth is a number of two bytes
pub record Holds (s : Site) (w : List ℕ) : Type 0 where
  pub valid : Valid (problem_at s w)
  pub room : arcs_at s.places + s.arcs ≤ length w
  pub row_rises : (v : ℕ) → v < s.places → row_start s.places w v ≤ row_end s.places w v
  pub row_in : (v : ℕ) → v < s.places → row_end s.places w v ≤ s.arcs
  pub growth_below : s.growth < 65536
