-- What the passes over what a search has recorded ask of the work area and leave in it.
use Rattle.std.specs.Prelude.{◌≡◌, cond, List, ℕ, ◌+◌, ◌^◌, ◌≤◌, ◌<◌, eqb, get_or, drop}
use Rattle.std.proofs.Math.Option.{Option, none, some}
use Rattle.model.specs.Lists.{filter_map, least}
use Rattle.model.specs.Problem.{Arc, IsGoal}
use Rattle.model.specs.Costs.{Table, cost_at}
use Rattle.model.specs.Query.{next_limit}
use Rattle.model.specs.Routes.{parent_by}
use Rattle.model.specs.Terms.{NoMore}
use Rattle.map.specs.declared.Site.{Site}
use Rattle.layout.specs.Regions.{ends_at, label_word, depth_word}
use Rattle.layout.specs.Map.{problem_at, Holds}
use Rattle.layout.specs.Labels.{word_or, labels, depths, Labelled, Lists, parent_at}

-- What the pass for the next limit asks: just the places that have a label are listed.
pub record Listed (s : Site) (count : ℕ) (w : List ℕ) : Type 0 where
  pub labelled : Labelled s w
  pub places : Lists s.places count (λ v. (d : ℕ) × (cost_at (labels s.places w) v ≡ some d)) w

-- The number with which a query ends, as the definition has it on the table of labels; the largest word where there is none.
pub record IsNextLimit (s : Site) (w : List ℕ) (r : ℕ) : Type 0 where
  pub next : word_or r ≡ next_limit (problem_at s w) (labels s.places w)

-- What the pass for parents asks: labels, and depths so small that one arc more fits.
pub record Recorded (s : Site) (w : List ℕ) : Type 0 where
  pub labelled : Labelled s w
  pub depth_below : (v d : ℕ) → cost_at (labels s.places w) v ≡ some d → depth_word s.places w v < 2 ^ 30

-- the place from which the arc a reaches v at v's label, one deeper, with the labels t and the depths ks
unfoldable pub parent_from : Table → List ℕ → ℕ → Arc → Option ℕ
parent_from t ks v a = cond (eqb (get_or ks a.from 0 + 1) (get_or ks v 0)) (parent_by a v (cost_at t a.from) (cost_at t v)) none

-- Each place's parent is the lowest-numbered of these; the map is as before.
pub record HasParents (s : Site) (w₀ w : List ℕ) : Type 0 where
  pub same_map : drop (ends_at s.places) w ≡ drop (ends_at s.places) w₀
  pub parents : (v : ℕ) → v < s.places → parent_at s.places w v
      ≡ least (filter_map (parent_from (labels s.places w₀) (depths s.places w₀) v) (problem_at s w₀).arcs)

-- What the choice of the route's goal asks: `first` is a goal, and the lowest-numbered of those with its label.
pub record LowestGoal (s : Site) (first : ℕ) (w : List ℕ) : Type 0 where
  pub holds : Holds s w
  pub is_goal : IsGoal (problem_at s w) first
  pub lowest : (g : ℕ) → IsGoal (problem_at s w) g → label_word w g ≡ label_word w first → first ≤ g

-- r is the goal with that label that comes first by depth, then by number
pub record NearestGoal (s : Site) (first : ℕ) (w : List ℕ) (r : ℕ) : Type 0 where
  pub is_goal : IsGoal (problem_at s w) r
  pub label : label_word w r ≡ label_word w first
  pub nearest : (g : ℕ) → IsGoal (problem_at s w) g → label_word w g ≡ label_word w first
      → NoMore (depth_word s.places w r) r (depth_word s.places w g) g
