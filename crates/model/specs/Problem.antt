-- The search problem, apart from any record: places 0 to N − 1, arcs, estimates, a start and goals.
use Rattle.std.specs.Prelude.{◌≡◌, ℕ, ◌≤◌, ◌<◌}
use mathlib.Core.List.{List, Memᴰ}
use Rattle.model.specs.Limits.{max_places, max_cost, max_estimate}

pub record Arc : Type 0 where
  pub from : ℕ
  pub to : ℕ
  pub cost : ℕ

pub record Problem : Type 0 where
  -- N
  pub places : ℕ
  pub arcs : List Arc
  pub estimate : ℕ → ℕ
  pub start : ℕ
  pub goals : List ℕ
  -- what b is multiplied by when a round closes
  pub growth : ℕ

abbrev pub IsArc : Problem → Arc → Type 0
IsArc p a = Memᴰ a p.arcs

abbrev pub IsGoal : Problem → ℕ → Type 0
IsGoal p g = Memᴰ g p.goals

-- What the refusals leave: every accepted input's problem is valid.
pub record Valid (p : Problem) : Type 0 where
  pub some_place : 1 ≤ p.places
  pub few_places_lem : p.places ≤ max_places
  pub arc_from : (a : Arc) → IsArc p a → a.from < p.places
  pub arc_to : (a : Arc) → IsArc p a → a.to < p.places
  pub cost_above : (a : Arc) → IsArc p a → 1 ≤ a.cost
  pub cost_below : (a : Arc) → IsArc p a → a.cost ≤ max_cost
  pub estimate_below : (v : ℕ) → p.estimate v ≤ max_estimate
  pub start_below : p.start < p.places
  pub some_goal : (g : ℕ) × IsGoal p g
  pub goal_below : (g : ℕ) → IsGoal p g → g < p.places
  pub goal_estimate : (g : ℕ) → IsGoal p g → p.estimate g ≡ 0
  pub grows : 2 ≤ p.growth
