-- Where no estimate overstates: limits from the cheapest cost on have a goal within, low stays at or below it, and the route found is the
-- problem's own first cheapest one. Where any estimate may: none is given exactly where no goal can be reached. Assumes nothing.
use mathlib.Core.Path.{◌≡◌, refl, ap, sym, subst, ◌∙◌}
use mathlib.Core.List.{List, Memᴰ}
use mathlib.Core.Option.{Option, none, some}
use Prim.Native.Nat.{ℕ, ◌+◌, ◌-◌, ◌*◌, ◌^◌, ◌≤◌, ◌<◌}
use native.Mathlib.Nat.{le_refl, le_trans}
use native.Mathlib.Decide.{dec_le}
use native.Mathlib.Omega.{arith}
use lib.ListN.{length}
use Rattle.model.specs.Numbers.{binary_digits}
use Rattle.model.specs.Problem.{Problem, Arc, IsArc, IsGoal, Valid}
use Rattle.model.specs.Paths.{Walk, stay, on, places, PathTo, GoalReachable, Route}
use Rattle.model.specs.Paths.{Within, PathWithin, RouteWithin, Cheapest, FirstCheapest, Admissible}
use Rattle.model.specs.Costs.{cost_at, table}
use Rattle.model.specs.Query.{Key, within, first_goal, next_limit, Outcome, ended, over, found, nothing, query}
use Rattle.model.specs.Rounds.{Round, Step, first_round, limit_of, settle, after, ask, next, trace, total}
use Rattle.model.specs.Routes.{first_route}
use Rattle.model.specs.Terms.{AtMost, IsWithin, RoundKept, Closes}
use Rattle.model.proofs.Lists.{none-some}
use Rattle.model.proofs.LeastCosts.{start_below, end_below, entry_path, path_entry, start_within, larger_limit, table-length}
use Rattle.model.proofs.Keys.{IsFirstGoal, first_goal_none, first_goal_some, within-length, within-some, within_monotone}
use Rattle.model.proofs.Queries.{next_limit_some, ended_next, nothing_next, found_goal, over_exceeds}
use Rattle.model.proofs.Crossing.{leaves, closed}
use Rattle.model.proofs.Rounds.{settle_low, along, asked, kept_first, kept_next, rounds_kept, low_limit}
use Rattle.model.proofs.Total.{digits_below, total_bounded, closes_over}
use Rattle.model.proofs.Routes.{first_same}
use Rattle.model.proofs.LeastPaths.{route_within}

-- an arc in front of a walk
pub arc_then : {p : Problem} {v e : ℕ} (a : Arc) → IsArc p a → Walk p a.to v e → Walk p a.from v (a.cost + e)
arc_then {p} a i w = onward w
  where
    onward : {v e : ℕ} → Walk p a.to v e → Walk p a.from v (a.cost + e)
    onward stay = subst (Walk p a.from a.to) (omega arith) (on a i stay)
    onward (on {d = d} b j w) =
        let same : a.cost + d + b.cost ≡ a.cost + (d + b.cost) = omega arith in
        rw (← same) (on b j (onward w))

module _ (p : Problem) (ok : Valid p) where
  -- the outcome of a query of the trace is that of its limit and budget
  outcome_asked : (s : Step) → Memᴰ s (trace p)
      → s.query.outcome ≡ (query p (limit_of s.round.low s.round.high) s.round.budget).outcome
  unfolding ask
  outcome_asked s i = ap (λ (t : Step). t.query.outcome) (asked p s i)

  pub none_unreachable : (s : Step) → Memᴰ s (trace p) → s.query.outcome ≡ nothing → GoalReachable p → ⊥
  none_unreachable s i e r = first_goal_none p (table p C) no_goal.0 r.goal r.is_goal (reached r.reachable.path)
    where
      C : ℕ
      C = limit_of s.round.low s.round.high

      no_goal : (first_goal p (table p C) ≡ none) × (next_limit p (table p C) ≡ none)
      no_goal = nothing_next p C s.round.budget (sym (outcome_asked s i) ∙ e)

      kept : RoundKept p s.round
      kept = rounds_kept p ok s i

      reached : {v d : ℕ} → PathTo p v d → IsWithin (table p C) v
      reached stay = record { cost = 0; is = start_within p ok C (le_trans kept.start_low (low_limit p ok s.round kept)) }
      reached (on a j w) = closed p ok C no_goal.1 a j (reached w)

  pub found_reachable : (s : Step) → Memᴰ s (trace p) → s.query.outcome ≡ found → GoalReachable p
  found_reachable s i e =
      let C = limit_of s.round.low s.round.high in
      let g = found_goal p C s.round.budget (sym (outcome_asked s i) ∙ e) in
      let first = first_goal_some p (table p C) g.0 g.1 in
      let w = entry_path p C g.0.place g.0.cost first.entry in
      record { goal = g.0.place; is_goal = first.is_goal; reachable = record { cost = g.0.cost; path = w.path } }

  pub within_at_most : (C : ℕ) → length (within (table p C)) ≤ p.places
  within_at_most C = omega (arith, table-length p C, within-length (table p C))

  -- a larger limit has no fewer places within
  pub within_grows : (C E : ℕ) → C ≤ E → length (within (table p C)) ≤ length (within (table p E))
  within_grows C E h = within_monotone (table p C) (table p E) (table-length p C ∙ sym (table-length p E)) larger
    where
      larger : (v : ℕ) → IsWithin (table p C) v → IsWithin (table p E) v
      larger v w = let m = larger_limit p ok C E h v w.cost w.is in record { cost = m.cost; is = m.is }

  module _ (A : Admissible p) where
    estimate_at_most : {v g e : ℕ} → IsGoal p g → Walk p v g e → p.estimate v ≤ e
    unfolding Admissible
    estimate_at_most {v} {g} {e} i w =
        let fits : ¬ (e < p.estimate v) = λ h. A v (record { goal = g; is_goal = i; cost = e; walk = w; above = omega arith }) in
        omega arith

    -- a walk from whose end another leads to a goal, of cost at most C together, is within C
    onward_within : {u v d g e : ℕ} (C : ℕ) (w : Walk p u v d) → IsGoal p g → Walk p v g e → d + e ≤ C → Within C w
    unfolding Within
    onward_within C stay i rest h = le_trans (estimate_at_most i rest) (omega arith)
    onward_within C (on a j w) i rest h =
        let m = estimate_at_most i rest in
        (onward_within C w i (arc_then a j rest) (omega arith), omega arith)

    -- every route is within its own cost, and so within every limit from there on
    inside : (c C : ℕ) (r : List ℕ) → c ≤ C → (R : Route p c r) → Within C R.path
    inside c C r h R = onward_within C R.path R.is_goal stay (omega arith)

    -- a cheapest route is within its own cost, and so within every limit from there on
    pub cheapest_within : (c C : ℕ) (r : List ℕ) → Cheapest p c → c ≤ C → Route p c r → RouteWithin p C c r
    cheapest_within c C r k h R = record { route = R; within = inside c C r h R }

    -- a route of cost at most C puts its goal within C at no more than its cost
    route_entry : (c C : ℕ) (r : List ℕ) → c ≤ C → (R : Route p c r) → AtMost (cost_at (table p C) R.goal) c
    route_entry c C r h R = path_entry p ok C R.goal c (record { path = R.path; within = inside c C r h R })

    pub goal_within : (c C : ℕ) → Cheapest p c → c ≤ C → (g : Key) × (first_goal p (table p C) ≡ some g)
    goal_within c C k h = go (first_goal p (table p C)) refl
      where
        go : (o : Option Key) → first_goal p (table p C) ≡ o → (g : Key) × (first_goal p (table p C) ≡ some g)
        go none e =
            let R = k.holds.1 in
            let m = route_entry c C k.holds.0 h R in
            absurd (first_goal_none p (table p C) e R.goal R.is_goal (record { cost = m.cost; is = m.is }))
        go (some g) e = (g, e)

    -- whatever limit finds a goal finds it at the cheapest cost
    pub found_cheapest : (C : ℕ) (g : Key) → first_goal p (table p C) ≡ some g → Cheapest p g.cost
    found_cheapest C g e =
        record {
          holds = (places w.path, record { goal = g.place; is_goal = first.is_goal; path = w.path; in_order = refl });
          least = λ c R. cheapest c R.0 R.1 (dec_le c C);
        }
      where
        first : IsFirstGoal p (table p C) g
        first = first_goal_some p (table p C) g e

        w : PathWithin p C g.place g.cost
        w = entry_path p C g.place g.cost first.entry

        cheapest : (c : ℕ) (r : List ℕ) → Route p c r → Dec (c ≤ C) → g.cost ≤ c
        cheapest c r R (yes h) =
            let m = route_entry c C r h R in
            le_trans (first.cheapest R.goal m.cost R.is_goal m.is) m.below
        cheapest c r R (no n) = omega (arith, end_below w)

    pub route_first_cheapest : (C : ℕ) (g : Key) → first_goal p (table p C) ≡ some g → FirstCheapest p g.cost (first_route p (table p C) g)
    route_first_cheapest C g e =
        let cheapest = found_cheapest C g e in
        let first = first_goal_some p (table p C) g e in
        let below : g.cost ≤ C = omega (arith, end_below (entry_path p C g.place g.cost first.entry)) in
        record {
          cheapest = cheapest;
          first = first_same (λ s r. r.route) (λ s r. cheapest_within g.cost C s cheapest below r) (route_within p ok C g e).first;
        }

    module _ (c : ℕ) (k : Cheapest p c) where
      start_at_most : p.estimate p.start ≤ c
      start_at_most =
          let R = k.holds.1 in
          start_below {p = p} (record { path = R.path; within = inside c c k.holds.0 (le_refl c) R })

      -- an ended number is at most the cheapest cost
      next_at_most_cheapest : (C b x : ℕ) → p.estimate p.start ≤ C → (query p C b).outcome ≡ ended x → x ≤ c
      next_at_most_cheapest C b x h e = go (dec_le c C)
        where
          R : Route p c k.holds.0
          R = k.holds.1

          no_goal : first_goal p (table p C) ≡ none
          no_goal = (ended_next p C b x e).0

          outside : (o : Option ℕ) → cost_at (table p C) R.goal ≡ o → cost_at (table p C) R.goal ≡ none
          outside none z = z
          outside (some d) z = absurd (first_goal_none p (table p C) no_goal R.goal R.is_goal (record { cost = d; is = z }))

          go : Dec (c ≤ C) → x ≤ c
          go (yes l) = none-some (sym no_goal ∙ (goal_within c C k l).1)
          go (no n) =
              let way : PathWithin p c R.goal c = record { path = R.path; within = inside c c k.holds.0 (le_refl c) R } in
              let out = leaves p ok C c R.goal c (omega arith) h way (outside (cost_at (table p C) R.goal) refl) in
              let next = next_limit_some p (table p C) x (ended_next p C b x e).1 in
              le_trans (next.least out.arc out.cost out.crosses) out.bound

      pub low_next : (r s : Round) → RoundKept p r → r.low ≤ c → next p (ask p r) ≡ some s → s.low ≤ c
      unfolding next ask after
      low_next r s x h e = go (query p C r.budget).outcome refl e
        where
          C : ℕ
          C = limit_of r.low r.high

          low_is : (q low : ℕ) (high : Option ℕ) (b : ℕ) → ◌≡◌ {A = Option Round} (some (settle q low high b)) (some s) → s.low ≡ low
          low_is q low high b z = let same : settle q low high b ≡ s = cc in rw (← same) (settle_low q low high b)

          go : (o : Outcome) → (query p C r.budget).outcome ≡ o → after p.growth r C o ≡ some s → s.low ≤ c
          go (ended y) o z =
              let bound = next_at_most_cheapest C r.budget y (le_trans x.start_low (low_limit p ok r x)) o in
              rw (low_is p.growth y r.high r.budget z) bound
          go over o z = rw (low_is p.growth r.low (some C) r.budget z) h
          go found o z = none-some z
          go nothing o z = none-some z

      pub low_at_most_cheapest : (s : Step) → Memᴰ s (trace p) → s.round.low ≤ c
      unfolding first_round
      low_at_most_cheapest s i =
          (along p (λ r. RoundKept p r × (r.low ≤ c)) (kept_first p ok, start_at_most)
          (λ r t x e. (kept_next p ok r t x.0 e, low_next r t x.0 x.1 e)) s i).1

      pub some_within_cheapest : 1 ≤ length (within (table p c))
      some_within_cheapest =
          within-some (table p c) p.start (record { cost = 0; is = start_within p ok c start_at_most })

      pub admissible_total : (p.growth - 1) * total (trace p) ≤ p.growth * p.growth * length (within (table p c)) * (2 * binary_digits c + 1)
      admissible_total =
          total_bounded p ok (length (within (table p c))) (binary_digits c) some_within_cheapest low_fits closes_below
        where
          low_fits : (s : Step) → Memᴰ s (trace p) → s.round.low < 2 ^ binary_digits c
          low_fits s i =
              let digits : c < 2 ^ binary_digits c = (digits_below c (binary_digits c)).0 (le_refl _) in
              omega (arith, low_at_most_cheapest s i)

          closes_below : (s : Step) → Memᴰ s (trace p) → Closes p s → s.round.budget < length (within (table p c))
          closes_below s i z =
              let comes : next p (ask p s.round) ≡ some z.round = rw (← asked p s i) z.comes_next in
              let low : z.round.low ≤ c = low_next s.round z.round (rounds_kept p ok s i) (low_at_most_cheapest s i) comes in
              let exceeds = over_exceeds p z.round.low s.round.budget (closes_over p ok s i z) in
              le_trans exceeds (within_grows z.round.low c low)
