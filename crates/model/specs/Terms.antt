-- Words in which the laws speak of tables, rounds and traces.
use Rattle.std.specs.Prelude.{◌≡◌, Bool, true, false, ℕ, ◌+◌, ◌-◌, ◌*◌, ◌≤◌, ◌<◌, length, take, drop}
use mathlib.Core.List.{List, [], ◌∷◌, ◌++◌, Memᴰ}
use Rattle.std.proofs.Math.Option.{Option, none, some}
use Rattle.model.specs.Lists.{any}
use Rattle.model.specs.Limits.{max_estimate}
use Rattle.model.specs.Problem.{Problem, Arc, IsArc, IsGoal}
use Rattle.model.specs.Paths.{Walk, places}
use Rattle.model.specs.Costs.{Table, cost_at, table}
use Rattle.model.specs.Query.{Key, first_goal, Outcome, ended, over, found, nothing, query}
use Rattle.model.specs.Rounds.{Round, Step, ask, next, total}

-- an entry of at most d
pub record AtMost (entry : Option ℕ) (d : ℕ) : Type 0 where
  pub cost : ℕ
  pub is : entry ≡ some cost
  pub below : cost ≤ d

-- x with j is no more than y with k: by the first number, then by the second
pub record NoMore (x j y k : ℕ) : Type 0 where
  pub first : x ≤ y
  pub second : x ≡ y → j ≤ k

-- the place has an entry
pub record IsWithin (t : Table) (v : ℕ) : Type 0 where
  pub cost : ℕ
  pub is : cost_at t v ≡ some cost

-- every place of the walk is within C
unfoldable pub Inside : {p : Problem} (C : ℕ) {u v d : ℕ} → Walk p u v d → Type 0
Inside {p = p} C w = (x : ℕ) → Memᴰ x (places w) → IsWithin (table p C) x

-- what holds of the round as each query begins
pub record RoundKept (p : Problem) (r : Round) : Type 0 where
  pub start_low : p.estimate p.start ≤ r.low
  pub some_budget : 1 ≤ r.budget
  pub high_above : (h : ℕ) → r.high ≡ some h → r.low < h
  pub high_over : (h : ℕ) → r.high ≡ some h → (query p h r.budget).outcome ≡ over

-- found and none finish the search
abbrev pub Final : Outcome → Type 0
Final (ended x) = ⊥
Final over = ⊥
Final found = Unit {0}
Final nothing = Unit {0}

-- the last query is final and no other is
unfoldable pub Finished : List Step → Type 0
Finished [] = ⊥
Finished (s ∷ []) = Final s.query.outcome
Finished (s ∷ t ∷ ss) = (Final s.query.outcome → ⊥) × Finished (t ∷ ss)

-- the round closes after this query: the next budget is the grown one
pub record Closes (p : Problem) (s : Step) : Type 0 where
  pub round : Round
  pub comes_next : next p s ≡ some round
  pub grown : round.budget ≡ p.growth * s.round.budget

-- Under the allowance the queries are cut at s, the n-th: it is the first that the allowance does not last for.
pub record CutAt (allowance : ℕ) (ss : List Step) (s : Step) (n : ℕ) : Type 0 where
  pub earlier : List Step
  pub later : List Step
  pub split : ss ≡ earlier ++ (s ∷ later)
  pub lasts : total earlier ≤ allowance
  pub exceeds : allowance < total earlier + s.query.cost
  pub counted : n ≡ length earlier + 1

unfoldable pub is_ended : Outcome → Bool
is_ended (ended x) = true
is_ended over = false
is_ended found = false
is_ended nothing = false

-- some query is ended
unfoldable pub some_ended : List Step → Bool
some_ended ss = any (λ (s : Step). is_ended s.query.outcome) ss

-- of the queries from the m-th on and before the n-th, some query is ended
unfoldable pub ends_between : (m n : ℕ) → List Step → Bool
ends_between m n ss = some_ended (drop (m - 1) (take (n - 1) ss))

-- The queries from a round on, one after another, up to the one that finishes the search.
pub data Run (p : Problem) : Round → List Step → Type 0 where
  last : {r : Round} → next p (ask p r) ≡ none → Run p r (ask p r ∷ [])
  more : {r s : Round} {ss : List Step} → next p (ask p r) ≡ some s → Run p s ss → Run p r (ask p r ∷ ss)

-- The same problem up to the order of its arcs and goals: what is asked of the places of the one holds of those of the other.
pub record SameProblem (p q : Problem) : Type 0 where
  pub places : p.places ≡ q.places
  pub estimate : (v : ℕ) → v < p.places → p.estimate v ≡ q.estimate v
  pub start : p.start ≡ q.start
  pub growth : p.growth ≡ q.growth
  pub arc_to : (a : Arc) → IsArc p a → IsArc q a
  pub arc_from : (a : Arc) → IsArc q a → IsArc p a
  pub goal_to : (g : ℕ) → IsGoal p g → IsGoal q g
  pub goal_from : (g : ℕ) → IsGoal q g → IsGoal p g

-- f is 0 at the goals and falls along no arc by more than its cost; the field's word for such estimates is consistent
pub record Consistent (p : Problem) (f : ℕ → ℕ) : Type 0 where
  pub at_goals : (g : ℕ) → IsGoal p g → f g ≡ 0
  pub along_arcs : (a : Arc) → IsArc p a → f a.from ≤ a.cost + f a.to

-- the problem from another start, with no estimates
unfoldable pub from_place : Problem → ℕ → Problem
from_place p v =
    record { places = p.places; arcs = p.arcs; estimate = λ u. 0; start = v; goals = p.goals; growth = p.growth }

unfoldable pub goal_cost : Option Key → ℕ
goal_cost none = max_estimate
goal_cost (some g) = g.cost

-- The least cost from v to a goal, by the table of costs; the highest estimate, which in a valid problem is above all of them, where no goal
-- can be reached.
unfoldable pub cost_to_goal : Problem → ℕ → ℕ
cost_to_goal p v = let q = from_place p v in goal_cost (first_goal q (table q max_estimate))
