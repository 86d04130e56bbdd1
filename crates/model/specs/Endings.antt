-- How a search ends, and the engine that makes it end so: the budgeted search.
use Rattle.std.specs.Prelude.{Bool, true, false, List, ℕ}
use Rattle.std.proofs.Math.Option.{Option, none, some}
use Rattle.model.specs.Problem.{Problem}
use Rattle.model.specs.Costs.{Table, table}
use Rattle.model.specs.Query.{Key, first_goal}
use Rattle.model.specs.Rounds.{Search, search}
use Rattle.model.specs.Routes.{first_route}

pub record CutShort : Type 0 where
  pub floor : ℕ
  pub expansions : ℕ
  pub queries : ℕ

pub record NoGoal : Type 0 where
  pub start : ℕ
  pub limit : ℕ
  pub expansions : ℕ
  pub queries : ℕ

pub record Reached : Type 0 where
  pub cost : ℕ
  pub places : List ℕ
  pub limit : ℕ
  pub expansions : ℕ
  pub queries : ℕ

pub data Ending : Type 0 where
  -- 16, allowance spent
  spent : CutShort → Ending
  -- 17, no route
  no_route : NoGoal → Ending
  -- 0, a route
  routed : Reached → Ending

-- An engine: from a problem and an allowance to an ending.
abbrev pub Engine : Type 0
Engine = Problem → ℕ → Ending

-- A rule for the route: by the problem, the table of D and its first goal. It decides the places and no number.
abbrev pub RouteRule : Type 0
RouteRule = Problem → Table → Key → List ℕ

unfoldable pub finished : RouteRule → Problem → Search → Table → Option Key → Ending
finished rule p s t none =
    no_route (record { start = p.start; limit = s.last.limit; expansions = s.expansions; queries = s.queries })
finished rule p s t (some g) =
    routed (record { cost = g.cost; places = rule p t g; limit = s.last.limit; expansions = s.expansions; queries = s.queries })

-- The last query of a search that is not spent is found, with a first goal, or none, with no goal within. Limit is "the last C"; floor is "low in
-- the query that was cut".
unfoldable pub ending_if : RouteRule → Bool → Problem → Search → Ending
ending_if rule true p s = spent (record { floor = s.last.round.low; expansions = s.expansions; queries = s.queries })
ending_if rule false p s = let t = table p s.last.limit in finished rule p s t (first_goal p t)

-- the budgeted search, with this rule for its route
unfoldable pub budgeted_by : RouteRule → Engine
budgeted_by rule p allowance = let s = search p allowance in ending_if rule s.spent p s

-- The budgeted search.
abbrev pub budgeted : Engine
budgeted = budgeted_by first_route
