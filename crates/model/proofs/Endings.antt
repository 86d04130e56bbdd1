-- How the budgeted search ends: spent, no route, or a route; floor and limit are those of its last query. Assumes nothing.
use mathlib.Core.Path.{◌≡◌, refl, sym, ap, ◌∙◌}
use mathlib.Core.Bool.{Bool, true, false}
use mathlib.Core.List.Memᴰ
use mathlib.Core.List.{List, [], ◌∷◌, ◌++◌, Memᴰ}
use mathlib.Core.Option.{some}
use Prim.Native.Nat.{ℕ, ◌≤◌, ◌<◌}
use lib.ListN.{length}
use borrow.Author.Tests.{ltb-false}
use Rattle.model.specs.Problem.{Problem, Valid}
use Rattle.model.specs.Paths.{GoalReachable}
use Rattle.model.specs.Costs.{table}
use Rattle.model.specs.Query.{Key, first_goal, Outcome, ended, over, found, nothing, Query, query}
use Rattle.model.specs.Rounds.{Step, ask, trace, total, Search, search}
use Rattle.model.specs.Routes.{first_route}
use Rattle.model.specs.Endings.{Ending, spent, no_route, routed, finished, ending_if, budgeted_by, budgeted}
use Rattle.model.specs.Terms.{Final, Finished, CutAt}
use Rattle.model.proofs.Queries.{nothing_next, found_goal}
use Rattle.model.proofs.Rounds.{asked, trace_finished}
use Rattle.model.proofs.Admissible.{none_unreachable, found_reachable}
use Rattle.model.proofs.Allowance.{spent_exactly, spent_cut, not_spent}

-- an allowance that is not spent lasts
unspent_lasts : (p : Problem) (a : ℕ) → (search p a).spent ≡ false → total (trace p) ≤ a
unfolding search
unspent_lasts p a e = ltb-false a (total (trace p)) e

-- the last query of a finished search is final
last_final : (ss : List Step) (s : Step) → Finished (ss ++ (s ∷ [])) → Final s.query.outcome
unfolding Finished
last_final [] s f = f
last_final (t ∷ []) s f = f.1
last_final (t ∷ u ∷ ss) s f = last_final (u ∷ ss) s f.1

-- what a query of the trace gives is what its limit and budget give
query_asked : (p : Problem) (s : Step) → Memᴰ s (trace p) → s.query ≡ query p s.limit s.round.budget
unfolding ask
query_asked p s i =
    let e = asked p s i in
    ap (λ (t : Step). t.query) e ∙ ap (λ (C : ℕ). query p C s.round.budget) (sym (ap (λ (t : Step). t.limit) e))

module _ (p : Problem) (a : ℕ) where
  -- the allowance is spent: it lasts for the queries before the one that is cut, whose low is the floor
  pub record IsSpent (e : Ending) : Type 0 where
    pub exceeds : a < total (trace p)
    pub cut : Step
    pub queries : ℕ
    pub is_cut : CutAt a (trace p) cut queries
    pub is : e ≡ spent (record { floor = cut.round.low; expansions = a; queries = queries })

  -- the allowance lasts for all queries, the last of which is this one
  pub record LastsTo (last : Step) : Type 0 where
    pub lasts : total (trace p) ≤ a
    pub earlier : List Step
    pub split : trace p ≡ earlier ++ (last ∷ [])

  -- there is no route
  pub record IsNoRoute (e : Ending) : Type 0 where
    pub last : Step
    pub lasts_to : LastsTo last
    pub unreachable : GoalReachable p → ⊥
    pub is : e ≡ no_route (record { start = p.start; limit = last.limit; expansions = total (trace p); queries = length (trace p) })

  -- there is a route: the first one of the last limit's table
  pub record IsRouted (e : Ending) : Type 0 where
    pub last : Step
    pub lasts_to : LastsTo last
    pub reachable : GoalReachable p
    pub goal : Key
    pub is_first : first_goal p (table p last.limit) ≡ some goal
    pub is : e
        ≡ routed (record {
          cost = goal.cost;
          places = first_route p (table p last.limit) goal;
          limit = last.limit;
          expansions = total (trace p);
          queries = length (trace p);
        })

  pub data Ends (e : Ending) : Type 0 where
    spent_ends : IsSpent e → Ends e
    none_ends : IsNoRoute e → Ends e
    route_ends : IsRouted e → Ends e

  -- where nothing is cut the last query has found a goal, or there is none
  uncut_ends : Valid p → (s : Search) → LastsTo s.last → s.expansions ≡ total (trace p) → s.queries ≡ length (trace p)
      → Ends (ending_if first_route false p s)
  unfolding ending_if finished
  uncut_ends ok s to expansions queries = go s.last.query.outcome refl final
    where
      C : ℕ
      C = s.last.limit

      b : ℕ
      b = s.last.round.budget

      i : Memᴰ s.last (trace p)
      i = rw to.split (Memᴰ.append_right to.earlier (Memᴰ.head refl))

      final : Final s.last.query.outcome
      final = last_final to.earlier s.last (rw to.split at (trace_finished p ok))

      gives : (o : Outcome) → s.last.query.outcome ≡ o → (query p C b).outcome ≡ o
      gives o e = sym (ap (λ (q : Query). q.outcome) (query_asked p s.last i)) ∙ e

      go : (o : Outcome) → s.last.query.outcome ≡ o → Final o → Ends (ending_if first_route false p s)
      go (ended x) e f = absurd f
      go over e f = absurd f
      go found e f =
          let (g, is_first) = found_goal p C b (gives found e) in
          let reachable = found_reachable p ok s.last i e in
          route_ends (record {
            last = s.last;
            lasts_to = to;
            reachable = reachable;
            goal = g;
            is_first = is_first;
            is = rw (is_first, expansions, queries);
          })
      go nothing e f =
          let no_goal = (nothing_next p C b (gives nothing e)).0 in
          let unreachable = none_unreachable p ok s.last i e in
          none_ends (record { last = s.last; lasts_to = to; unreachable = unreachable; is = rw (no_goal, expansions, queries) })

  pub budgeted_ends : Valid p → Ends (budgeted p a)
  unfolding budgeted_by ending_if
  budgeted_ends ok = go (search p a).spent refl
    where
      s : Search
      s = search p a

      go : (t : Bool) → s.spent ≡ t → Ends (ending_if first_route t p s)
      go true e =
          let exceeds = (spent_exactly p a).0 e in
          let (expansions, is_cut) = spent_cut p a exceeds in
          spent_ends (record { exceeds = exceeds; cut = s.last; queries = s.queries; is_cut = is_cut; is = rw expansions })
      go false e =
          let lasts = unspent_lasts p a e in
          let (expansions, queries, (earlier, split)) = not_spent p a (trace_finished p ok) lasts in
          uncut_ends ok s (record { lasts = lasts; earlier = earlier; split = split }) expansions queries
