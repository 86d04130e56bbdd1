-- What the functions of the rounds ask and give, and where the search stands as a query begins.
use Rattle.std.specs.Prelude.{◌≡◌, List, [], ◌∷◌, ◌++◌, ℕ, ◌^◌, ◌≤◌, ◌<◌, length, drop}
use Rattle.std.proofs.Math.Option.{none, some}
use Rattle.map.specs.declared.Site.{Site}
use Rattle.layout.specs.Regions.{ends_at}
use Rattle.layout.specs.Map.{problem_at}
use Rattle.layout.specs.Labels.{labels}
use Rattle.model.specs.Problem.{Problem}
use Rattle.model.specs.Costs.{cost_at}
use Rattle.model.specs.Query as query
use Rattle.model.specs.Rounds as model
use Rattle.model.specs.Rounds.{after, Step, trace}
use Rattle.model.specs.Terms.{Run}
use Rattle.scans.specs.Area.{Recorded, HasParents, LowestGoal, NearestGoal}
use Rattle.query.specs.Query.{Ready, outcome_of}
use Rattle.query.specs.declared.Outcome.{Outcome}
use Rattle.search.specs.Rounds.{high_of, round_of}
use Rattle.search.specs.declared.Round.{Round}
use Rattle.search.specs.declared.Verdict.{Verdict}
use Rattle.search.specs.declared.Verdict.TheVariants.{Routed}

-- what `settle` asks: the next round's budget, grown where the round closes, fits a word
pub record BudgetFits (growth : ℕ) (round : Round) : Type 0 where
  pub fits : (model.settle growth round.low (high_of round.high) round.budget).budget < 2 ^ 32

-- what it gives: the next round, in the terms of document 01, with the outcome that the record carried
pub record NextRound (growth : ℕ) (before r : Round) : Type 0 where
  pub round : round_of r ≡ model.settle growth before.low (high_of before.high) before.budget
  pub carries : r.outcome ≡ before.outcome

-- what `after` asks: where a round follows the query, its budget fits a word
pub record BudgetFitsAfter (round : Round) (growth limit : ℕ) (outcome : Outcome) : Type 0 where
  pub fits : (s : model.Round) → after growth (round_of round) limit (outcome_of outcome) ≡ some s → s.budget < 2 ^ 32

-- the record that a query leaves: of the next round where the definition gives one, of the same round where it gives none; with the
-- query's outcome
pub record RoundAfter (round : Round) (growth limit : ℕ) (outcome : Outcome) (r : Round) : Type 0 where
  pub next : (s : model.Round) → after growth (round_of round) limit (outcome_of outcome) ≡ some s → round_of r ≡ s
  pub finished : after growth (round_of round) limit (outcome_of outcome) ≡ none → round_of r ≡ round_of round
  pub carries : r.outcome ≡ outcome

-- the first goal has a label, and is the lowest-numbered of those that have it
pub record GoalLabelled (s : Site) (first : ℕ) (w : List ℕ) : Type 0 where
  pub recorded : Recorded s w
  pub lowest : LowestGoal s first w
  pub cost : ℕ
  pub label : cost_at (labels s.places w) first ≡ some cost

-- the first goal's label is the verdict's cost, and the parents lead back from the goal with that label that comes first by depth
pub record Parented (s : Site) (first limit expansions queries : ℕ) (w₀ w : List ℕ) (r : Verdict) : Type 0 where
  pub parents : HasParents s w₀ w
  pub cost : ℕ
  pub label : cost_at (labels s.places w₀) first ≡ some cost
  pub goal : ℕ
  pub nearest : NearestGoal s first w₀ goal
  pub verdict : r ≡ Routed (record { cost = cost; goal = goal; limit = limit; expansions = expansions; queries = queries })

-- The queries done, whose total the allowance lasts for and the last of which, if any, had outcome o; and those from round r on to the one
-- that finishes the search.
pub record Underway (p : Problem) (allowance : ℕ) (r : model.Round) (o : query.Outcome) (total queries : ℕ) : Type 0 where
  pub done : List Step
  pub rest : List Step
  pub split : trace p ≡ done ++ rest
  pub run : Run p r rest
  pub sum : total ≡ model.total done
  pub lasts : total ≤ allowance
  pub counted : queries ≡ length done
  pub last_outcome : (before : List Step) (s : Step) → done ≡ before ++ (s ∷ []) → s.query.outcome ≡ o

-- as a query begins: the map is as it was, the open list is ready, the round is one of the search's, and its record carries the outcome of
-- the query before
pub record BetweenQueries (s : Site) (allowance : ℕ) (w₀ w : List ℕ) (round : Round) (expansions queries : ℕ) : Type 0 where
  pub same_map : drop (ends_at s.places) w ≡ drop (ends_at s.places) w₀
  pub same_length : length w ≡ length w₀
  pub ready : Ready s.places w
  pub underway : Underway (problem_at s w₀) allowance (round_of round) (outcome_of round.outcome) expansions queries
