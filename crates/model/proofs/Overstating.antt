-- No estimate overstates exactly where none is above the least cost from its place to a goal; those costs are consistent. Assumes nothing.
use mathlib.Core.Path.{◌≡◌, refl}
use mathlib.Core.Logic.{◌↔◌}
use mathlib.Core.Option.{Option, none, some}
use Prim.Native.Nat.{ℕ, ◌+◌, ◌-◌, ◌*◌, ◌≤◌, ◌<◌}
use native.Mathlib.Nat.{le_refl, le_trans}
use native.Mathlib.Decide.{dec_le, dec_lt}
use native.Mathlib.Omega.{arith}
use Rattle.model.specs.Limits.{max_cost, max_estimate}
use Rattle.model.specs.Problem.{Problem, Arc, IsArc, IsGoal, Valid}
use Rattle.model.specs.Paths.{Walk, stay, on, places, GoalReachable, Within, PathWithin, Route, Cheapest, Admissible}
use Rattle.model.specs.Costs.{Table, cost_at, table}
use Rattle.model.specs.Query.{Key, first_goal, next_limit}
use Rattle.model.specs.Terms.{AtMost, IsWithin, Consistent, from_place, goal_cost, cost_to_goal}
use Rattle.model.proofs.LeastCosts.{end_below, entry_path, path_entry, start_within}
use Rattle.model.proofs.Keys.{first_goal_none, first_goal_some}
use Rattle.model.proofs.Crossing.{next_above_limit, next_at_most, closed}
use Rattle.model.proofs.Admissible.{arc_then}

-- the cost of a walk is at least the fall of consistent estimates along it
fall_at_most : {p : Problem} {f : ℕ → ℕ} → Consistent p f → {u v d : ℕ} → Walk p u v d → f u ≤ d + f v
fall_at_most c stay = omega arith
fall_at_most c (on a i w) = omega (arith, fall_at_most c w, c.along_arcs a i)

-- Estimates that are nowhere above consistent ones do not overstate.
pub below_consistent : (p : Problem) (f : ℕ → ℕ) → Consistent p f → ((v : ℕ) → p.estimate v ≤ f v) → Admissible p
unfolding Admissible
below_consistent p f c below v o = omega (arith, below v, fall_at_most c o.walk, c.at_goals o.goal o.is_goal)

module _ (p : Problem) (v : ℕ) where
  -- with no estimates, a walk from v is a path within every limit from its cost on
  path_from : (C : ℕ) {u d : ℕ} → Walk p v u d → d ≤ C → PathWithin (from_place p v) C u d
  unfolding from_place Within
  path_from C stay h = record { path = stay; within = omega arith }
  path_from C (on a i w) h = let x = path_from C w (omega arith) in record { path = on a i x.path; within = (x.within, omega arith) }

  walk_back : {u w d : ℕ} → Walk (from_place p v) u w d → Walk p u w d
  unfolding from_place
  walk_back stay = stay
  walk_back (on a i w) = on a i (walk_back w)

  -- an entry is the cost of a walk from v, and at most the limit
  entry_walk : (C u d : ℕ) → cost_at (table (from_place p v) C) u ≡ some d → Walk p v u d × (d ≤ C)
  unfolding from_place
  entry_walk C u d e = let x = entry_path (from_place p v) C u d e in (walk_back x.path, omega (arith, end_below x))

module _ (p : Problem) (ok : Valid p) where
  walk_begins : {u v d : ℕ} → Walk p u v d → v < p.places → u < p.places
  walk_begins stay h = h
  walk_begins (on a i w) h = walk_begins w (ok.arc_from a i)

  from_valid : {v g d : ℕ} → IsGoal p g → Walk p v g d → Valid (from_place p v)
  unfolding from_place
  from_valid {v} {g} i w =
      record {
        some_place = ok.some_place;
        few_places_lem = ok.few_places_lem;
        arc_from = ok.arc_from;
        arc_to = ok.arc_to;
        cost_above = ok.cost_above;
        cost_below = ok.cost_below;
        estimate_below = λ u. omega arith;
        start_below = walk_begins w (ok.goal_below g i);
        some_goal = ok.some_goal;
        goal_below = ok.goal_below;
        goal_estimate = λ h j. refl;
        grows = ok.grows;
      }

  -- cost_to_goal is at most the highest estimate, and where it is below, some walk to a goal has this cost
  capped : (v : ℕ) → (cost_to_goal p v ≤ max_estimate) × (cost_to_goal p v < max_estimate → (g : ℕ) × IsGoal p g × Walk p v g (cost_to_goal p v))
  unfolding cost_to_goal goal_cost from_place
  capped v = go (first_goal (from_place p v) t) refl
    where
      t : Table
      t = table (from_place p v) max_estimate

      go : (o : Option Key) → first_goal (from_place p v) t ≡ o
          → (goal_cost o ≤ max_estimate) × (goal_cost o < max_estimate → (g : ℕ) × IsGoal p g × Walk p v g (goal_cost o))
      go none e = (le_refl max_estimate, λ h. absurd (omega arith))
      go (some k) e =
          let first = first_goal_some (from_place p v) t k e in
          let (w, below) = entry_walk p v max_estimate k.place k.cost first.entry in
          (below, λ h. (k.place, first.is_goal, w))

  -- cost_to_goal is the least cost, capped: at most every cost of a walk to a goal,
  pub cost_at_most : {v g d : ℕ} → IsGoal p g → Walk p v g d → cost_to_goal p v ≤ d
  unfolding cost_to_goal goal_cost from_place
  cost_at_most {v} {g} {d} i w = go (dec_le d max_estimate)
    where
      t : Table
      t = table (from_place p v) max_estimate

      found : AtMost (cost_at t g) d → (o : Option Key) → first_goal (from_place p v) t ≡ o → goal_cost o ≤ d
      found m none e = absurd (first_goal_none (from_place p v) t e g i (record { cost = m.cost; is = m.is }))
      found m (some k) e = le_trans ((first_goal_some (from_place p v) t k e).cheapest g m.cost i m.is) m.below

      go : Dec (d ≤ max_estimate) → cost_to_goal p v ≤ d
      go (yes h) = found (path_entry (from_place p v) (from_valid i w) max_estimate g d (path_from p v max_estimate w h)) _ refl
      go (no n) = omega (arith, (capped v).0)

  -- and below the cap it is such a cost,
  pub cost_reached : (v : ℕ) → cost_to_goal p v < max_estimate → (g : ℕ) × IsGoal p g × Walk p v g (cost_to_goal p v)
  cost_reached v h = (capped v).1 h

  -- as it is wherever a goal can be reached: no arc crosses out of the limit (N − 1) × 65,535, so all that can be reached is within.
  pub reachable_below : {v g d : ℕ} → IsGoal p g → Walk p v g d → cost_to_goal p v < max_estimate
  unfolding from_place
  reachable_below {v} {g} i w =
      let end = inside w in
      let (x, below) = entry_walk p v C g end.cost end.is in
      omega (arith, cost_at_most {d = end.cost} i x, ok.few_places_lem)
    where
      C : ℕ
      C = (p.places - 1) * max_cost

      q : Problem
      q = from_place p v

      valid : Valid q
      valid = from_valid i w

      none_crosses : (o : Option ℕ) → next_limit q (table q C) ≡ o → next_limit q (table q C) ≡ none
      none_crosses none e = e
      none_crosses (some x) e = absurd (omega (arith, next_at_most q valid 0 C x (λ u. le_refl 0) e, next_above_limit q valid C x e))

      inside : {u c : ℕ} → Walk p v u c → IsWithin (table q C) u
      inside stay = record { cost = 0; is = start_within q valid C (omega arith) }
      inside (on a j x) = closed q valid C (none_crosses (next_limit q (table q C)) refl) a j (inside x)

  -- It is consistent,
  pub least_costs_consistent : Consistent p (cost_to_goal p)
  least_costs_consistent =
      record { at_goals = λ g i. omega (arith, cost_at_most i stay); along_arcs = λ a i. along a i (dec_lt (cost_to_goal p a.to) max_estimate) }
    where
      along : (a : Arc) → IsArc p a → Dec (cost_to_goal p a.to < max_estimate) → cost_to_goal p a.from ≤ a.cost + cost_to_goal p a.to
      along a i (yes h) = let (g, j, w) = cost_reached a.to h in cost_at_most j (arc_then a i w)
      along a i (no n) = omega (arith, (capped a.from).0)

  -- and nothing overstates exactly where no estimate is above it.
  pub admissible_exactly : Admissible p ↔ ((v : ℕ) → p.estimate v ≤ cost_to_goal p v)
  unfolding Admissible
  admissible_exactly = (λ A v. below A v (dec_le (p.estimate v) (cost_to_goal p v)), below_consistent p (cost_to_goal p) least_costs_consistent)
    where
      below : Admissible p → (v : ℕ) → Dec (p.estimate v ≤ cost_to_goal p v) → p.estimate v ≤ cost_to_goal p v
      below A v (yes h) = h
      below A v (no n) =
          let (g, i, w) = cost_reached v (omega (arith, ok.estimate_below v)) in
          absurd (A v (record { goal = g; is_goal = i; cost = cost_to_goal p v; walk = w; above = omega arith }))

  -- Every problem with a route has a cheapest cost.
  pub has_cheapest : GoalReachable p → (k : ℕ) × Cheapest p k
  has_cheapest r =
      let (g, i, w) = cost_reached p.start (reachable_below r.is_goal r.reachable.path) in
      let route : Route p (cost_to_goal p p.start) (places w) = record { goal = g; is_goal = i; path = w; in_order = refl } in
      (cost_to_goal p p.start, record { holds = (places w, route); least = λ d R. cost_at_most R.1.is_goal R.1.path })
