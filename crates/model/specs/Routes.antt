-- The route within C that a table of D gives: document 01's rule, which reads it from the goal back, and document 02's, paper 2, which puts fewer
-- places first.
use Rattle.std.specs.Prelude.{cond, ◌&&◌, List, [], ◌∷◌, ◌++◌, ℕ, zero, suc, ◌+◌, eqb}
use Rattle.std.proofs.Math.Option.{Option, none, some}
use Rattle.model.specs.Lists.{filter, filter_map, least}
use Rattle.model.specs.Problem.{Problem, Arc}
use Rattle.model.specs.Costs.{Table, cost_at, same_entry, table}
use Rattle.model.specs.Query.{Key, first_goal}

-- ---- Document 01's rule

-- the place from which the arc a reaches v at v's own D, where it does
unfoldable pub parent_by : Arc → ℕ → Option ℕ → Option ℕ → Option ℕ
parent_by a v none e = none
parent_by a v (some d) none = none
parent_by a v (some d) (some e) = cond (eqb a.to v && eqb (d + a.cost) e) (some a.from) none

-- "each earlier place is the lowest-numbered one that some path within C of least cost uses there"
unfoldable pub parent : Problem → Table → ℕ → Option ℕ
parent p t v = least (filter_map (λ (a : Arc). parent_by a v (cost_at t a.from) (cost_at t v)) p.arcs)

unfoldable pub extend : ℕ → Option ℕ → (ℕ → List ℕ) → List ℕ
extend v none before = v ∷ []
extend v (some u) before = before u ++ (v ∷ [])

-- The places from the start to v, at most as many before v as the first number says. Nothing reaches the start at cost 0, so there it ends.
unfoldable pub route_up_to : ℕ → Problem → Table → ℕ → List ℕ
route_up_to zero p t v = v ∷ []
route_up_to (suc k) p t v = extend v (parent p t v) (route_up_to k p t)

-- Each arc costs at least 1, so a route of cost d has at most d arcs.
unfoldable pub route_to : Problem → Table → Key → List ℕ
route_to p t g = route_up_to g.cost p t g.place

-- ---- Fewest places first

-- the arc a counted as 1, where it reaches its end at the end's own D; the field's word for such an arc is tight
unfoldable pub tight_by : Arc → Option ℕ → Option ℕ → Option Arc
tight_by a none e = none
tight_by a (some d) none = none
tight_by a (some d) (some e) = cond (eqb (d + a.cost) e) (some (record { from = a.from; to = a.to; cost = 1 })) none

-- The least paths as a problem of their own: tight arcs, each counted as 1, and the goals whose D is c. Where c is the least D of a goal, its
-- routes are just the cheapest ones within C, and what one costs is how many arcs it has. So its cheapest routes have the fewest places.
unfoldable pub least_paths : Problem → Table → ℕ → Problem
least_paths p t c =
    record {
      places = p.places;
      arcs = filter_map (λ (a : Arc). tight_by a (cost_at t a.from) (cost_at t a.to)) p.arcs;
      estimate = λ v. 0;
      start = p.start;
      goals = filter (λ g. same_entry (cost_at t g) (some c)) p.goals;
      growth = p.growth;
    }

unfoldable pub route_to_first : Problem → Table → Option Key → List ℕ
route_to_first p t none = []
route_to_first p t (some g) = route_to p t g

-- The route of a table whose first goal is g, of which only its D has a part in it: document 01's rule, once more, on the least paths. Each arc costs
-- at least 1, so that a least path to a goal at that D has at most as many arcs.
unfoldable pub first_route : Problem → Table → Key → List ℕ
first_route p t g =
    let q = least_paths p t g.cost in
    let arcs = table q g.cost in
    route_to_first q arcs (first_goal q arcs)
