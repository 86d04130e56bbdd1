-- What paths, their costs and the first among them are, with no search in it: source document 003, section 2, document 01,
-- "The search", and document 02, paper 2.
use Rattle.std.specs.Prelude.{◌≡◌, List, [], ◌∷◌, ◌++◌, ℕ, suc, ◌+◌, ◌≤◌, ◌<◌, length}
use Rattle.model.specs.Problem.{Problem, Arc, IsArc, IsGoal}

-- n is the least number of which P holds
pub record Least (P : ℕ → Type 0) (n : ℕ) : Type 0 where
  pub holds : P n
  pub least : (k : ℕ) → P k → n ≤ k

-- a walk along arcs from u to v, of cost d
pub data Walk (p : Problem) (u : ℕ) : (v d : ℕ) → Type 0 where
  stay : Walk p u u 0
  on : {d : ℕ} (a : Arc) → IsArc p a → Walk p u a.from d → Walk p u a.to (d + a.cost)

-- its places in order
unfoldable pub places : {p : Problem} {u v d : ℕ} → Walk p u v d → List ℕ
places {u = u} stay = u ∷ []
places (on a i w) = places w ++ (a.to ∷ [])

-- a walk along the places r
pub record WalkAlong (p : Problem) (u v d : ℕ) (r : List ℕ) : Type 0 where
  pub walk : Walk p u v d
  pub in_order : places walk ≡ r

-- how many arcs it has
unfoldable pub arc_count : {p : Problem} {u v d : ℕ} → Walk p u v d → ℕ
arc_count stay = 0
arc_count (on a i w) = suc (arc_count w)

-- A path is a walk from the start.
abbrev pub PathTo : Problem → ℕ → ℕ → Type 0
PathTo p v d = Walk p p.start v d

pub record Reachable (p : Problem) (v : ℕ) : Type 0 where
  pub cost : ℕ
  pub path : PathTo p v cost

pub record GoalReachable (p : Problem) : Type 0 where
  pub goal : ℕ
  pub is_goal : IsGoal p goal
  pub reachable : Reachable p goal

-- A route is a path from the start to a goal. Here: of cost c, with the places r; two routes are the same when their places are, in order.
pub record Route (p : Problem) (c : ℕ) (r : List ℕ) : Type 0 where
  pub goal : ℕ
  pub is_goal : IsGoal p goal
  pub path : PathTo p goal c
  pub in_order : places path ≡ r

-- "A path is within limit C if, at each place on it, the cost so far plus that place's estimate is at most C."
unfoldable pub Within : {p : Problem} (C : ℕ) {u v d : ℕ} → Walk p u v d → Type 0
Within {p = p} C {u = u} stay = p.estimate u ≤ C
Within {p = p} C {d = d} (on a i w) = Within C w × (d + p.estimate a.to ≤ C)

pub record PathWithin (p : Problem) (C v d : ℕ) : Type 0 where
  pub path : PathTo p v d
  pub within : Within C path

-- D: "the least cost of a path within C to a place; a place with none is not within".
abbrev pub LeastWithin : Problem → ℕ → ℕ → ℕ → Type 0
LeastWithin p C v d = Least (PathWithin p C v) d

pub record RouteWithin (p : Problem) (C c : ℕ) (r : List ℕ) : Type 0 where
  pub route : Route p c r
  pub within : Within C route.path

-- r has the fewest places of the routes in R
pub record Fewest (R : List ℕ → Type 0) (r : List ℕ) : Type 0 where
  pub member : R r
  pub fewest : (s : List ℕ) → R s → length r ≤ length s

-- Document 01's own comparison of the routes in R. Read from the goal back, the place u at each point is the lowest-numbered one that some route
-- in R that ends in the places already read uses there; where none is read yet, that is the goal.
pub record FirstBack (R : List ℕ → Type 0) (r : List ℕ) : Type 0 where
  pub member : R r
  pub lowest : (x y read : List ℕ) (u v : ℕ) → r ≡ x ++ (u ∷ read) → R (y ++ (v ∷ read)) → u ≤ v

-- The first of the routes in R. Document 02, paper 2: "the one with fewest places comes first, goals included; only then is the old comparison
-- from the goal back used".
abbrev pub First : (List ℕ → Type 0) → List ℕ → Type 0
First R r = FirstBack (Fewest R) r

-- the cheapest cost: the least cost of a route
abbrev pub Cheapest : Problem → ℕ → Type 0
Cheapest p c = Least (λ d. (r : List ℕ) × Route p d r) c

-- The input's own first cheapest route, at the cheapest cost c: no limit has a part in it.
pub record FirstCheapest (p : Problem) (c : ℕ) (r : List ℕ) : Type 0 where
  pub cheapest : Cheapest p c
  pub first : First (Route p c) r

-- The first cheapest route within C, at the least cost c of a route within C. Of the goals with that D it ends at the one that a route with the
-- fewest places reaches, and of such goals at the lowest-numbered.
pub record FirstWithin (p : Problem) (C c : ℕ) (r : List ℕ) : Type 0 where
  pub cheapest : Least (λ d. (s : List ℕ) × RouteWithin p C d s) c
  pub first : First (RouteWithin p C c) r

-- "An estimate overstates when it is above the least cost from its place to a goal; where no goal can be reached, none does."
-- Above the least such cost is above some such cost.
pub record Overstates (p : Problem) (v : ℕ) : Type 0 where
  pub goal : ℕ
  pub is_goal : IsGoal p goal
  pub cost : ℕ
  pub walk : Walk p v goal cost
  pub above : cost < p.estimate v

-- no estimate overstates
unfoldable pub Admissible : Problem → Type 0
Admissible p = (v : ℕ) → Overstates p v → ⊥
