-- Walking a row: the arcs of a place, one after another.
use Rattle.std.specs.Prelude.{◌≡◌, List, ◌++◌, map, ℕ, ◌+◌, ◌-◌, ◌^◌, ◌≤◌, ◌<◌, length, take, drop}
use Rattle.model.specs.Limits.{max_places, max_estimate}
use Rattle.model.specs.Problem.{Arc}
use Rattle.layout.specs.Regions.{arcs_at, arc_end, estimate_word, HasPlace}
use Rattle.layout.specs.Map.{row_start, row_end, arc_in}

-- under way in the row of u, which ends at `end`, before its arc k
pub record InRow (n u k end : ℕ) (w : List ℕ) : Type 0 where
  pub row : HasPlace n u w
  pub room : arcs_at n + end ≤ length w
  pub is_end : end ≡ row_end n w u
  pub from_start : row_start n w u ≤ k
  pub to_end : k ≤ end

-- the word of an arc of the map, from a place labelled d
pub record IsArcWord (n d x : ℕ) (w : List ℕ) : Type 0 where
  pub few : n ≤ max_places
  pub room : arcs_at n ≤ length w
  pub end_in : arc_end x < n
  pub label_below : d < 2 ^ 30
  pub estimate_below : estimate_word n w (arc_end x) ≤ max_estimate

-- the arcs passed: those of the rows that are done, and u's own row up to, not including, arc k
unfoldable pub passed : ℕ → List ℕ → List Arc → ℕ → ℕ → List Arc
passed n w done u k = done ++ map (arc_in u) (take (k - row_start n w u) (drop (arcs_at n + row_start n w u) w))
